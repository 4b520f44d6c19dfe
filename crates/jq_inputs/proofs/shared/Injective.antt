-- Bound trees are equal only if their parts are.
use Rattle.std.proofs.Common.{◌≡◌, ℕ, List, Bool}
use Rattle.jq_tree.specs.Tree.{Name, Operator}
use Rattle.jq_tree.specs.BoundTree.{Binder, BoundTree, BoundTrees, BoundPieces, BoundEntry, BoundEntries, BoundPattern, BoundPatterns, BoundPart, BoundParts}
use Rattle.jq_tree.specs.BoundTree as bound

pub in_text : {f : Name} {b c : Binder} {x y : BoundPieces} → bound.text f b x ≡ bound.text f c y → x ≡ y
in_text e = cc

pub in_field : {n : Name} {m : Bool} {x y : BoundTree} → bound.field x n m ≡ bound.field y n m → x ≡ y
in_field e = cc

pub in_index : {m : Bool} {x y u v : BoundTree} → bound.index x u m ≡ bound.index y v m → (x ≡ y) × (u ≡ v)
in_index e = (cc, cc)

pub in_slice : {m : Bool} {x y u v s t : BoundTree} → bound.slice x u s m ≡ bound.slice y v t m → (x ≡ y) × (u ≡ v) × (s ≡ t)
in_slice e = (cc, cc, cc)

pub in_iterate : {m : Bool} {x y : BoundTree} → bound.iterate x m ≡ bound.iterate y m → x ≡ y
in_iterate e = cc

pub in_pipe : {x y u v : BoundTree} → bound.pipe x u ≡ bound.pipe y v → (x ≡ y) × (u ≡ v)
in_pipe e = (cc, cc)

pub in_comma : {x y u v : BoundTree} → bound.comma x u ≡ bound.comma y v → (x ≡ y) × (u ≡ v)
in_comma e = (cc, cc)

pub in_binary : {op : Operator} {x y u v : BoundTree} → bound.binary op x u ≡ bound.binary op y v → (x ≡ y) × (u ≡ v)
in_binary e = (cc, cc)

pub in_conjunction : {x y u v : BoundTree} → bound.conjunction x u ≡ bound.conjunction y v → (x ≡ y) × (u ≡ v)
in_conjunction e = (cc, cc)

pub in_disjunction : {x y u v : BoundTree} → bound.disjunction x u ≡ bound.disjunction y v → (x ≡ y) × (u ≡ v)
in_disjunction e = (cc, cc)

pub in_alternative : {x y u v : BoundTree} → bound.alternative x u ≡ bound.alternative y v → (x ≡ y) × (u ≡ v)
in_alternative e = (cc, cc)

pub in_negation : {x y : BoundTree} → bound.negation x ≡ bound.negation y → x ≡ y
in_negation e = cc

pub in_array : {x y : BoundTree} → bound.array x ≡ bound.array y → x ≡ y
in_array e = cc

pub in_object : {x y : BoundEntries} → bound.object x ≡ bound.object y → x ≡ y
in_object e = cc

pub in_choice : {x y u v s t : BoundTree} → bound.choice x u s ≡ bound.choice y v t → (x ≡ y) × (u ≡ v) × (s ≡ t)
in_choice e = (cc, cc, cc)

pub in_try : {x y u v : BoundTree} → bound.try_catch x u ≡ bound.try_catch y v → (x ≡ y) × (u ≡ v)
in_try e = (cc, cc)

pub in_label : {n : Name} {x y : BoundTree} → bound.label n x ≡ bound.label n y → x ≡ y
in_label e = cc

pub in_bind_as : {x y u v : BoundTree} {p q : BoundPattern} → bound.bind_as x p u ≡ bound.bind_as y q v → (x ≡ y) × (p ≡ q) × (u ≡ v)
in_bind_as e = (cc, cc, cc)

pub in_reduce : {x y u v s t : BoundTree} {p q : BoundPattern} → bound.reduce x p u s ≡ bound.reduce y q v t → (x ≡ y) × (p ≡ q) × (u ≡ v) × (s ≡ t)
in_reduce e = (cc, cc, cc, cc)

pub in_foreach : {x y u v s t i j : BoundTree} {p q : BoundPattern} → bound.foreach x p u s i ≡ bound.foreach y q v t j → (x ≡ y) × (p ≡ q) × (u ≡ v) × (s ≡ t) × (i ≡ j)
in_foreach e = (cc, cc, cc, cc, cc)

pub in_define : {n : Name} {ps : List Name} {x y u v : BoundTree} → bound.define n ps x u ≡ bound.define n ps y v → (x ≡ y) × (u ≡ v)
in_define e = (cc, cc)

pub in_call : {n : Name} {b c : Binder} {x y : BoundTrees} → bound.call n b x ≡ bound.call n c y → (b ≡ c) × (x ≡ y)
in_call e = (cc, cc)

pub in_prelude_call : {n : Name} {b c : Binder} {x y : BoundTrees} → bound.prelude_call n b x ≡ bound.prelude_call n c y → (b ≡ c) × (x ≡ y)
in_prelude_call e = (cc, cc)

pub in_trees : {x y : BoundTree} {u v : BoundTrees} → bound.more_trees x u ≡ bound.more_trees y v → (x ≡ y) × (u ≡ v)
in_trees e = (cc, cc)

pub in_pieces : {s : List ℕ} {x y : BoundTree} {u v : BoundPieces} → bound.more_pieces s x u ≡ bound.more_pieces s y v → (x ≡ y) × (u ≡ v)
in_pieces e = (cc, cc)

pub in_named : {key : List ℕ} {x y : BoundTree} → bound.named key x ≡ bound.named key y → x ≡ y
in_named e = cc

pub in_computed : {x y u v : BoundTree} → bound.computed x u ≡ bound.computed y v → (x ≡ y) × (u ≡ v)
in_computed e = (cc, cc)

pub in_own : {x y : BoundTree} → bound.own x ≡ bound.own y → x ≡ y
in_own e = cc

pub in_entries : {x y : BoundEntry} {u v : BoundEntries} → bound.more_entries x u ≡ bound.more_entries y v → (x ≡ y) × (u ≡ v)
in_entries e = (cc, cc)

pub in_items : {x y : BoundPatterns} → bound.items x ≡ bound.items y → x ≡ y
in_items e = cc

pub in_members : {x y : BoundParts} → bound.members x ≡ bound.members y → x ≡ y
in_members e = cc

pub in_patterns : {x y : BoundPattern} {u v : BoundPatterns} → bound.more_patterns x u ≡ bound.more_patterns y v → (x ≡ y) × (u ≡ v)
in_patterns e = (cc, cc)

pub in_keyed : {x y : BoundTree} {p q : BoundPattern} → bound.keyed x p ≡ bound.keyed y q → (x ≡ y) × (p ≡ q)
in_keyed e = (cc, cc)

pub in_keyed_variable : {n : Name} {p q : BoundPattern} → bound.keyed_variable n p ≡ bound.keyed_variable n q → p ≡ q
in_keyed_variable e = cc

pub in_parts : {x y : BoundPart} {u v : BoundParts} → bound.more_parts x u ≡ bound.more_parts y v → (x ≡ y) × (u ≡ v)
in_parts e = (cc, cc)
