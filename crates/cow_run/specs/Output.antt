-- What was written to a sink, from what it holds before and after, where it tells.
use Rattle.std.specs.Prelude.{◌⊎◌, Option}
use Rattle.std.specs.Io.KnownBytes.{Appends}
use Rattle.cow_model.specs.Lexis.{Text}
use Rattle.cow_model.specs.Fronts.{IsFrontOf}

-- a front of the text was written
abbrev pub WritesFront : Option Text → Option Text → Text → Type 0
WritesFront before after text = (front : Text) × IsFrontOf front text × Appends before after front

-- the whole text was written, or a front of it where the sink failed
abbrev pub WritesLine : Option Text → Option Text → Type 0 → Text → Type 0
WritesLine before after failed text = Appends before after text ⊎ (failed × WritesFront before after text)
