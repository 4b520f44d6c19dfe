-- The buckets of the binders: the bucket of a binder is a hash of its kind and name, and each bucket leads to all its
-- binders, the innermost first.
use Rattle.std.specs.Prelude.{◌≡◌, ◌≢◌, ◌<◌, ◌≤◌, ◌+◌, ◌*◌, ◌%◌, ℕ, suc, List, [], ◌∷◌, get_or, length, map, string_bytes}
use Rattle.jq_resolver.specs.declared.bindings.Kind.{Kind}
use Rattle.jq_resolver.specs.declared.bindings.Kind.TheVariants.{Function, Variable, Label}
use Rattle.jq_resolver.specs.declared.bindings.Bound.{Bound}

-- What the hash of a name starts from.
abbrev pub seed_of : Kind → ℕ
seed_of (Function arity) = arity % 1024
seed_of Variable = 1023
seed_of Label = 1022

-- The hash of the bytes after those that gave `hash`.
abbrev pub hashed : ℕ → List ℕ → ℕ
hashed hash [] = hash
hashed hash (byte ∷ bytes) = hashed ((hash * 37 + byte) % 1024) bytes

-- The bucket of the binders of this kind and name.
abbrev pub bucket_of : Kind → (name : List ℕ) → ℕ
bucket_of kind name = hashed (seed_of kind) name

abbrev pub bucket_in : Bound → ℕ
bucket_in b = bucket_of b.kind (string_bytes b.name)

-- Among the first n elements, the last one that is b is number k, counted from 1; k is 0 if none is b.
pub record IsLatest (b : ℕ) (all : List ℕ) (n k : ℕ) : Type 0 where
  pub within : k ≤ n
  pub belongs : (i : ℕ) → suc i ≡ k → get_or all i 0 ≡ b
  pub none_later : (i : ℕ) → k ≤ i → i < n → get_or all i 0 ≢ b

-- The table has the innermost binder of each bucket, and each binder has the next one outward in its bucket.
pub record AreLinked (binders : List Bound) (table : List ℕ) : Type 0 where
  pub size : length table ≡ 1024
  pub innermost : (b : ℕ) → b < 1024 → IsLatest b (map bucket_in binders) (length binders) (get_or table b 0)
  pub outward : (i : ℕ) (x : Bound) → i < length binders → x ≡ get_or binders i x → IsLatest (bucket_in x) (map bucket_in binders) i x.before
