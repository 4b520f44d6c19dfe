-- What is taken out of a shared list or table is its contents, or a clone of them.
use Rattle.std.proofs.Common.{Result, Ok, Err, OnErr, ◌≡◌, ◌⊎◌, inl, inr, List, [], ◌∷◌, map, ap, refl, string_bytes, BTreeMap, Vec, String, Global}
use Rattle.std.specs.Vec.{vec_len}
use Rattle.std.specs.List.{AllZip}
use Rattle.jv_data.proofs.Views.{Entry}
use Rattle.jv_data.specs.Shared.{entries_held}
use Rattle.jv_data.specs.View.{view, members_view}
use Rattle.jv_data.specs.declared.containers.members.Members.{Members}
use Rattle.jv_data.specs.declared.values.Val.{Val}

abbrev pub IsCopy : Val → Val → Type 0
IsCopy v w = view w ≡ view v

abbrev pub IsEntryCopy : Entry → Entry → Type 0
IsEntryCopy p q = (string_bytes q.0 ≡ string_bytes p.0) × IsCopy p.1 q.1

copied_items : (vs ws : List Val) → AllZip IsCopy vs ws → map view ws ≡ map view vs
copied_items [] [] z = refl
copied_items [] (w ∷ ws) z = absurd z
copied_items (v ∷ vs) [] z = absurd z
copied_items (v ∷ vs) (w ∷ ws) z = rw (z.0, copied_items vs ws z.1) refl

pub same_items : (vs ws : List Val) → (ws ≡ vs) ⊎ AllZip IsCopy vs ws → map view ws ≡ map view vs
same_items vs ws h = elim h [ inl e ↦ ap (map view) e | inr z ↦ copied_items vs ws z ]

copied_members : (es fs : List Entry) → AllZip IsEntryCopy es fs → members_view fs ≡ members_view es
copied_members [] [] z = refl
copied_members [] (f ∷ fs) z = absurd z
copied_members (e ∷ es) [] z = absurd z
copied_members (e ∷ es) (f ∷ fs) z = rw (z.0.0, z.0.1, copied_members es fs z.1) refl

-- the members themselves, or a clone of them
pub same_held : (m n : Members Val) → (n ≡ m) ⊎ (members_view (entries_held n) ≡ members_view (entries_held m)) → members_view (entries_held n) ≡ members_view (entries_held m)
same_held m n h = elim h [ inl e ↦ ap (λ o. members_view (entries_held o)) e | inr z ↦ z ]

pub same_members : (m n : BTreeMap (String Global) Val) → (n ≡ m) ⊎ AllZip IsEntryCopy m.entries n.entries → members_view n.entries ≡ members_view m.entries
same_members m n h = elim h [ inl e ↦ ap (λ o. members_view o.entries) e | inr z ↦ copied_members m.entries n.entries z ]

pub same_vec : (v w : Vec Val Global) → (w ≡ v) ⊎ (AllZip IsCopy v.items w.items × (vec_len w ≡ vec_len v)) → map view w.items ≡ map view v.items
same_vec v w h = elim h [ inl e ↦ ap (λ u. map view u.items) e | inr z ↦ copied_items v.items w.items z.0 ]

-- what always holds also holds on an error
pub on_err : {T E P : Type 0} (r : Result T E) → P → OnErr r P
on_err (Ok x) p = tt
on_err (Err e) p = p
