-- Worked rows: what scripts print, and how many copies they make at least and at most, computed by the check itself.
use Rattle.std.proofs.Common.{◌≡◌, ℕ, pos, List, []}
use Rattle.std.specs.Prelude.{refl, codes, ◌∷◌, Result, Ok, Err}
use Rattle.std.specs.Fmt.{digits}
use Rattle.cow_model.specs.declared.fault.ParseFault.{ParseFault}
use Rattle.cow_model.specs.declared.shape.Shape.{Shape}
use Rattle.cow_model.specs.declared.shape.Shape.TheVariants.{Add, Negate, Even, Below}
use Rattle.cow_model.specs.declared.statement.Statement.{Statement}
use Rattle.cow_model.specs.Lexis.{Text, lines_of, tokens_of}
use Rattle.cow_model.specs.Name.{is_reserved}
use Rattle.cow_model.specs.Atom.{atom_of}
use Rattle.cow_model.specs.Words.{word_of, kind_of, side_of, verb_of, group_of, preference_of}
use Rattle.cow_model.specs.Readers.{due_name, due_atom, due_integer, due_word, due_token, no_more, atoms_from, captures_from}
use Rattle.cow_model.specs.Forms.{insert_at, insert_atom, no_kind, lone_name, name_atom, name_place, name_place_atom, name_side, two_names, name_side_atom, name_places, name_atoms, splice, merge, lazy, give, insert, in_pairs, made, sliced, assigned, value_of, assignment, statement_of}
use Rattle.cow_model.specs.Parse.{stands, counted, stated, forked, tasked, ended, read_on, told, remark, with_tokens, with_line, script_of}
use Rattle.cow_model.specs.Generator.{opening, closing, generated}
use Rattle.cow_model.specs.Run.{text_of, bound, least}

-- the five rules of the program
abbrev rules : List Shape
rules = Add (pos 1) ∷ Negate ∷ Add (pos 10) ∷ Even ∷ Below (pos 100) ∷ []

-- the statements of a script, with all that the rows compute opened
said : Text → Result (List Statement) ParseFault
unfolding insert_at insert_atom no_kind lines_of tokens_of is_reserved atom_of word_of kind_of side_of verb_of group_of preference_of due_name due_atom due_integer due_word due_token no_more atoms_from captures_from lone_name name_atom name_place name_place_atom name_side two_names name_side_atom name_places name_atoms splice merge lazy give insert in_pairs made sliced assigned value_of assignment statement_of stands counted stated forked tasked ended read_on told remark with_tokens with_line script_of digits Rattle.cow_model.specs.declared.statement.Statement.TheViews.out-Statement denote.Hole.Carrier.out Rattle.cow_model.specs.declared.statement.Statement.TheBlock.shown-the_row-TaskBlock-1 denote.Hole.Carrier.shown denote.Hole.Carrier.hidden
said bytes = script_of bytes

abbrev text_in : Result (List Statement) ParseFault → Result Text ParseFault
text_in (Ok ss) = Ok (text_of ss rules)
text_in (Err fault) = Err fault

-- what a script prints
abbrev text : Text → Result Text ParseFault
text bytes = text_in (said bytes)

abbrev census_in : Result (List Statement) ParseFault → Result (Text × ℕ × ℕ) ParseFault
census_in (Ok ss) = Ok (text_of ss rules, least ss rules, bound ss rules)
census_in (Err fault) = Err fault

-- what a script prints, and the copies that it makes, at least and at most
abbrev census : Text → Result (Text × ℕ × ℕ) ParseFault
census bytes = census_in (said bytes)

append_to_copy : census (codes "let a = array 1 2 3\nlet b = a\nappend b 4\nshow a\nshow b\n") ≡ Ok (codes "[1, 2, 3]\n[1, 2, 3, 4]\n", 3, 7)
unfolding said
append_to_copy = refl

empty_script : census [] ≡ Ok ([], 0, 0)
unfolding said
empty_script = refl

assign_copies_nothing : census (codes "let a = array 1 2 3\nlet b = a\nshow b\n") ≡ Ok (codes "[1, 2, 3]\n", 3, 3)
unfolding said
assign_copies_nothing = refl

slice_keeps_indices : census (codes "let a = array 10 20 30 40 50\nlet s = slice a 2 4\nset s 2 31\nshow s\nshow a\nget s 1\n") ≡ Ok (codes "[31, 40] from 2\n[10, 20, 30, 40, 50]\n! out of range\n", 5, 9)
unfolding said
slice_keeps_indices = refl

extend_self : census (codes "let a = array 1 2\nextend a a\nshow a\n") ≡ Ok (codes "[1, 2, 1, 2]\n", 2, 6)
unfolding said
extend_self = refl

empty_array : text (codes "let a = array\npop a last\nremove a 0\nremove a \"x\"\npop a min\nshow a\n") ≡ Ok (codes "nil\n! out of range\n! wrong kind\n! wrong kind\n[]\n")
unfolding said
empty_array = refl

deque_ring : text (codes "let q = deque 1 2 3 4\npop q first\npop q first\npop q first\nappend q 5\nappend q 6\nappend q 7\nshow q\nrotate q 1\nshow q\n") ≡ Ok (codes "1\n2\n3\n[4, 5, 6, 7]\n[5, 6, 7, 4]\n")
unfolding said
deque_ring = refl

set_one_home : text (codes "let s = set 1 9 17\ninsert s 9\ninsert s 25\nremove s 9\nhas s 25\nhas s 17\nshow s\n") ≡ Ok (codes "false\ntrue\n9\ntrue\ntrue\n[1, 17, 25]\n")
unfolding said
set_one_home = refl

dict_put : text (codes "let d = dict 1 10\nput d 1 2\nput d 3 4\nshow d\nlet e = dict\nshow e\n") ≡ Ok (codes "10\nnil\n[1: 2, 3: 4]\n[:]\n")
unfolding said
dict_put = refl

odict_order : text (codes "let o = odict 2 20 1 10 3 30\nput o 1 11\nremove o 2\nshow o\nlet p = odict 3 30 1 11\nequal o p\nlet x = dict 1 11 3 30\nlet y = dict 3 30 1 11\nequal x y\n") ≡ Ok (codes "10\n20\n[1: 11, 3: 30]\nfalse\ntrue\n")
unfolding said
odict_order = refl

heap_ends : text (codes "let h = heap 2 1 2 3\npop h max\npop h min\npop h max\npop h min\npop h max\n") ≡ Ok (codes "3\n1\n2\n2\nnil\n")
unfolding said
heap_ends = refl

tdict_lift : text (codes "let m = tdict 0 1 32 2\nremove m 32\nshow m\n") ≡ Ok (codes "2\n[0: 1]\n")
unfolding said
tdict_lift = refl

tset_collisions : text (codes "let t = tset 0 -1 4294967297\nremove t -1\nshow t\nremove t 0\nshow t\nlet u = tset 2166136261 \"\"\nhas u \"\"\nremove u 2166136261\nshow u\n") ≡ Ok (codes "-1\n[0, 4294967297]\n0\n[4294967297]\ntrue\n2166136261\n[\"\"]\n")
unfolding said
tset_collisions = refl

fork_two_copies : text (codes "let a = array 1\nfork\ntask copy a\nappend a 2\nshow a\ngive a as b\nend\ntask copy a\nappend a 3\nshow a\ngive a as c\nend\nend\nshow a\nshow b\nshow c\n") ≡ Ok (codes "[1, 2]\n[1, 3]\n[1]\n[1, 2]\n[1, 3]\n")
unfolding said
fork_two_copies = refl

fork_copy_take : census (codes "let c = array 1 2\nfork\ntask copy c\nappend c 3\nshow c\nend\ntask take c\nappend c 4\nshow c\nend\nend\nshow c\n") ≡ Ok (codes "[1, 2, 3]\n[1, 2, 4]\n! no name\n", 2, 8)
unfolding said
fork_copy_take = refl

lazy_asks : text (codes "let a = array 1 3 4 6\nlazy a 3 first\nlazy a 3 count\nlazy a 0 show\n") ≡ Ok (codes "4\n2\n[2, 4, 5, 7]\n")
unfolding said
lazy_asks = refl

array_calls : text (codes "let a = array 3 1 2\ninsert a 1 9\nswap a 0 3\nreverse a\nsplice a 1 3 7 8 5\nreserve a 10\nshow a\nremove a 0\nclear a\ncount a\n") ≡ Ok (codes "[3, 7, 8, 5, 2]\n3\n0\n")
unfolding said
array_calls = refl

slice_calls : text (codes "let a = array 1 2 3 4\nlet s = slice a 1 3\nappend s 9\npop s first\nshow s\nrebase s\nshow s\nshow a\n") ≡ Ok (codes "2\n[3, 9] from 2\n[3, 9]\n[1, 2, 3, 4]\n")
unfolding said
slice_calls = refl

deque_calls : text (codes "let q = deque 1 2 3\nprepend q 0\ninsert q 2 7\nset q 0 5\nremove q 1\npop q last\nreserve q 8\nshow q\n") ≡ Ok (codes "1\n3\n[5, 7, 2]\n")
unfolding said
deque_calls = refl

set_algebra_set : text (codes "let s = set 1 2 3\nlet u = set 3 4\nunion s u\nshow s\ninter s u\nshow s\nlet v = set 4\nminus s v\nshow s\nsymdiff s u\nshow s\nupdate s 4\nupdate s 8\nsubset v s\ndisjoint u v\n") ≡ Ok (codes "[1, 2, 3, 4]\n[3, 4]\n[3]\n[4]\n4\nnil\ntrue\nfalse\n")
unfolding said
set_algebra_set = refl

set_algebra_oset : text (codes "let s = oset 1 2 3\nlet u = oset 3 4\nunion s u\nshow s\ninter s u\nshow s\nlet v = oset 4\nminus s v\nshow s\nsymdiff s u\nshow s\nupdate s 4\nupdate s 8\nsubset v s\ndisjoint u v\n") ≡ Ok (codes "[1, 2, 3, 4]\n[3, 4]\n[3]\n[4]\n4\nnil\ntrue\nfalse\n")
unfolding said
set_algebra_oset = refl

set_algebra_tset : text (codes "let s = tset 1 2 3\nlet u = tset 3 4\nunion s u\nshow s\ninter s u\nshow s\nlet v = tset 4\nminus s v\nshow s\nsymdiff s u\nshow s\nupdate s 4\nupdate s 8\nsubset v s\ndisjoint u v\n") ≡ Ok (codes "[1, 2, 3, 4]\n[3, 4]\n[3]\n[4]\n4\nnil\ntrue\nfalse\n")
unfolding said
set_algebra_tset = refl

dict_merge_dict : text (codes "let d = dict 1 10 2 20\nlet e = dict 2 21 3 30\nlet f = d\nmerge d e keep\nshow d\nmerge f e take\nshow f\nlet w = set 1 3\nwithin d w\nshow d\nremove d 3\n") ≡ Ok (codes "[1: 10, 2: 20, 3: 30]\n[1: 10, 2: 21, 3: 30]\n[1: 10, 3: 30]\n30\n")
unfolding said
dict_merge_dict = refl

dict_merge_tdict : text (codes "let d = tdict 1 10 2 20\nlet e = tdict 2 21 3 30\nlet f = d\nmerge d e keep\nshow d\nmerge f e take\nshow f\nlet w = set 1 3\nwithin d w\nshow d\nremove d 3\n") ≡ Ok (codes "[1: 10, 2: 20, 3: 30]\n[1: 10, 2: 21, 3: 30]\n[1: 10, 3: 30]\n30\n")
unfolding said
dict_merge_tdict = refl

oset_calls : text (codes "let o = oset 5 3\nappend o 3\nappend o 4\ninsert o 0 9\nswap o 0 1\nreverse o\nshow o\nremove o 5\nremoveat o 0\nplace o 9\nat o 9\n") ≡ Ok (codes "false\ntrue\ntrue\n[4, 3, 9, 5]\n5\n4\n1\n! out of range\n")
unfolding said
oset_calls = refl

odict_calls : text (codes "let p = odict 1 10 2 20\nswap p 0 1\nshow p\nreverse p\nremoveat p 0\nat p 0\n") ≡ Ok (codes "[2: 20, 1: 10]\n1: 10\n2: 20\n")
unfolding said
odict_calls = refl

heap_calls : text (codes "let h = heap 4 1 3\ninsert h 9\npeek h max\nreplace h min 7\nreplace h max 0\nshow h\n") ≡ Ok (codes "9\n1\n9\n[0, 3, 4, 7]\n")
unfolding said
heap_calls = refl

a_change_of_an_alone_value : census (codes "let a = array 1 2 3\nappend a 4\nappend a 5\n") ≡ Ok ([], 3, 5)
unfolding said
a_change_of_an_alone_value = refl

the_same_element_again : census (codes "let a = array 1 2\nlet b = a\nset a 0 1\nset a 0 1\n") ≡ Ok ([], 2, 8)
unfolding said
the_same_element_again = refl

first_elements_of_a_shared_slice : census (codes "let a = array 1 2 3\nlet s = slice a 0 3\npop s first\npop s first\n") ≡ Ok (codes "1\n2\n", 3, 5)
unfolding said
first_elements_of_a_shared_slice = refl

refused_statements : census (codes "let a = array 1\nlet b = a\nappend z 1\nremove a 9\n") ≡ Ok (codes "! no name\n! out of range\n", 1, 3)
unfolding said
refused_statements = refl

one_key_of_a_trie : census (codes "let t = tset 1 2\nlet u = t\ninsert u 3\n") ≡ Ok (codes "true\n", 2, 5)
unfolding said
one_key_of_a_trie = refl

a_lazy_look : census (codes "let a = array 1 2\nlazy a 0 first\nappend a 3\n") ≡ Ok (codes "2\n", 2, 6)
unfolding said
a_lazy_look = refl

a_value_beside_itself : census (codes "let a = array 1\nequal a a\nappend a 2\n") ≡ Ok (codes "true\n", 1, 3)
unfolding said
a_value_beside_itself = refl

a_pair_is_two : census (codes "let d = dict 1 2\nlet e = d\nput e 1 3\n") ≡ Ok (codes "2\n", 2, 6)
unfolding said
a_pair_is_two = refl

the_generator : text (generated 0 1) ≡ Ok (codes "nil\ntrue\nnil\nnil\n[]\n[-1]\n[]\n[]\n[:]\n[]\n[:]\n")
unfolding said opening closing
the_generator = refl
