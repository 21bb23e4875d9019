use Rattle.std.proofs.Common.{◌≡◌, ◌+◌, ◌++◌, drop}
use Rattle.cow_model.specs.Env.{start}
use Rattle.cow_model.specs.Run.{env_after, text_from, text_of, least_from, least}
use Rattle.cow_plain.proofs.script.run.Given as goal

-- what has run, and the statements to come
abbrev pub invariant-loop-statement : goal.invariant-loop-statement
invariant-loop-statement l =
    (l.text.items ++ text_from l.env l.shapes (drop l.statement-index l.statements) ≡ text_of l.statements l.shapes)
    × (l.least + least_from l.env l.shapes (drop l.statement-index l.statements) ≡ least l.statements l.shapes)
    × (env_after l.env l.shapes (drop l.statement-index l.statements) ≡ env_after start l.shapes l.statements)
