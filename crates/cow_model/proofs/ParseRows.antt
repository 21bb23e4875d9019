-- Worked rows: what the definitions say of small scripts, computed by the check itself.
use Rattle.std.proofs.Common.{◌≡◌, pos, ◌∷◌, []}
use Rattle.std.specs.Prelude.{refl, codes, true, false, Ok, Err}
use Rattle.cow_model.specs.declared.fault.ParseFault.TheVariants.{BadAtom, BadName, ForkShape}
use Rattle.cow_model.specs.declared.plain.Literal.TheVariants.{Int, Text}
use Rattle.cow_model.specs.declared.statement.Kind.TheVariants.{Array}
use Rattle.cow_model.specs.declared.statement.Statement.TheVariants.{Let, Show, Append, Give, Fork}
use Rattle.cow_model.specs.Lexis.{lines_of, tokens_of}
use Rattle.cow_model.specs.Name.{is_reserved}
use Rattle.cow_model.specs.Atom.{atom_of}
use Rattle.cow_model.specs.Words.{word_of, kind_of, group_of}
use Rattle.cow_model.specs.Readers.{due_name, due_atom, due_token, no_more, atoms_from, captures_from}
use Rattle.cow_model.specs.Forms.{lone_name, name_atom, give, made, value_of, assignment, statement_of}
use Rattle.cow_model.specs.Parse.{stands, counted, stated, forked, tasked, ended, read_on, told, remark, with_tokens, with_line, script_of}

tokens_in_quotes : tokens_of (codes " a \"b c\"d e\\\" \"\\\" f\" g") ≡ codes "a" ∷ codes "\"b c\"d" ∷ codes "e\\\"" ∷ codes "\"\\\" f\"" ∷ codes "g" ∷ []
unfolding tokens_of
tokens_in_quotes = refl

array_is_no_name : script_of (codes "let array = array") ≡ Err (BadName 1)
unfolding lines_of tokens_of is_reserved word_of due_name assignment statement_of stands counted read_on told with_tokens with_line script_of
array_is_no_name = refl

no_leading_zero : script_of (codes "let a = array 01") ≡ Err (BadAtom 1)
unfolding lines_of tokens_of is_reserved atom_of word_of kind_of due_name due_token atoms_from made value_of assignment statement_of stands counted read_on told with_tokens with_line script_of
no_leading_zero = refl

no_lone_quote : script_of (codes "let a = array \"") ≡ Err (BadAtom 1)
unfolding lines_of tokens_of is_reserved atom_of word_of kind_of due_name due_token atoms_from made value_of assignment statement_of stands counted read_on told with_tokens with_line script_of
no_lone_quote = refl

end_without_fork : script_of (codes "end") ≡ Err (ForkShape 1)
unfolding lines_of tokens_of word_of stands counted read_on told with_tokens with_line script_of
end_without_fork = refl

fork_without_end : script_of (codes "let a = array 1\nfork") ≡ Err (ForkShape 2)
unfolding lines_of tokens_of is_reserved atom_of word_of kind_of due_name due_token no_more atoms_from made value_of assignment statement_of stands counted stated forked read_on told with_tokens with_line script_of
fork_without_end = refl

a_text_with_escapes : script_of (codes "#cow 1\nlet a = array \"x\\\"y\"\nshow a\n") ≡ Ok (Let 2 (codes "a") Array (Text (codes "x\"y") ∷ []) ∷ Show 3 (codes "a") ∷ [])
unfolding lines_of tokens_of is_reserved atom_of word_of kind_of due_name due_token no_more atoms_from lone_name made value_of assignment statement_of stands counted stated forked read_on told remark with_tokens with_line script_of
a_text_with_escapes = refl

two_tasks : script_of (codes "fork\ntask copy a take b\nappend a 1\ngive a as c\nend\ntask\nend\nend") ≡ Ok (Fork 1 (
    record { line = 2; captures = record { moves = false; name = codes "a" } ∷ record { moves = true; name = codes "b" } ∷ []; statements = Append 3 (codes "a") (Int (pos 1)) ∷ Give 4 (codes "a") (codes "c") ∷ [] }
    ∷ record { line = 6; captures = []; statements = [] } ∷ []) ∷ [])
unfolding lines_of tokens_of is_reserved atom_of word_of group_of due_name due_atom due_token no_more captures_from name_atom give statement_of stands counted stated forked tasked ended read_on told with_tokens with_line script_of
two_tasks = refl
