-- The chains through the bindings of each bucket, from the last one to the first.
use Rattle.std.specs.Prelude.{◌≡◌, ◌≢◌, ℕ, ◌-◌, ◌<◌, ◌≤◌, List, length, slice_index_or}

-- one more than the index of the last of the first `end` bindings that is in a bucket; 0 if there is none
abbrev pub IsLast : (bucket : ℕ) → (buckets : List ℕ) → (end at : ℕ) → Type 0
IsLast b bs end at = (at ≤ end) × (0 < at → slice_index_or bs (at - 1) 0 ≡ b) × ((j : ℕ) → at ≤ j → j < end → slice_index_or bs j 0 ≢ b)

-- for each bucket, its last binding among the first `end`
abbrev pub Latest : (buckets : List ℕ) → (end : ℕ) → (latest : List ℕ) → Type 0
Latest bs end latest = (b : ℕ) → b < 128 → IsLast b bs end (slice_index_or latest b 0)

-- for each index, the last binding before it in its own bucket
abbrev pub Earlier : (buckets : List ℕ) → (earlier : List ℕ) → Type 0
Earlier bs earlier = (k : ℕ) → k < length earlier → IsLast (slice_index_or bs k 0) bs k (slice_index_or earlier k 0)
