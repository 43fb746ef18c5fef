-- Laws of the setup header as it is read and returned.
use Prim.Native.Nat.{ℕ, zero, suc, ◌+◌, ◌-◌, min}
use mathlib.Core.Path.{◌≡◌, refl, sym, ◌∙◌, ap}
use mathlib.Core.List.{List, [], ◌∷◌}
use native.Mathlib.Omega.{arith}
use native.Mathlib.Nat.{add-zero, add-suc}
use lib.ListN.{length, get_or, drop, replicate, length-drop}
use lib.Seq.{sets, take_all, get_or-drop}
use borrow.Rule.Slice.PartMut.{mid_of}
use Rattle.fields.specs.Numbers.{le_bytes}
use Rattle.fields.proofs.CopyingLaws.{sets_out, sets_behind}
use Rattle.guest.proofs.PartLaws.{drop_clipped}
use Rattle.bzimage.specs.SetupHeader.{header_size, place_of}
use Rattle.bzimage.specs.Header.{bytes_from, header_of}
use Rattle.bzimage.proofs.SetupHeaderLaws.{at_setup_sects, at_code32_start}

-- ---- zeros, of which the front is stored over

bytes_behind : (n : ℕ) (vs : List ℕ) (v p : ℕ) → bytes_from n (v ∷ vs) (suc p) ≡ bytes_from n vs p
unfolding bytes_from
bytes_behind zero vs v p = refl
bytes_behind (suc n) vs v p = ap (λ (l : List ℕ). get_or vs p 0 ∷ l) (bytes_behind n vs v (suc p))

bytes_none : (n p : ℕ) → replicate n 0 ≡ bytes_from n [] p
unfolding bytes_from
bytes_none zero p = refl
bytes_none (suc n) p = ap (λ (l : List ℕ). 0 ∷ l) (bytes_none n (suc p))

over_zeros : (n : ℕ) (vs : List ℕ) → sets (replicate n 0) 0 vs ≡ bytes_from n vs 0
unfolding bytes_from
over_zeros zero vs = sets_out vs [] 0 (omega arith)
over_zeros (suc n) [] = bytes_none (suc n) 0
over_zeros (suc n) (v ∷ vs) =
    sets_behind vs (replicate n 0) v 0 ∙ ap (λ (l : List ℕ). v ∷ l) (over_zeros n vs ∙ sym (bytes_behind n vs v 0))

-- ---- the bytes from a place on

bytes_drop : (n : ℕ) (s : List ℕ) (p q : ℕ) → bytes_from n (drop p s) q ≡ bytes_from n s (p + q)
unfolding bytes_from
bytes_drop zero s p q = refl
bytes_drop (suc n) s p q =
    rw (get_or-drop p s q 0) (ap (λ (l : List ℕ). get_or s (p + q) 0 ∷ l) (bytes_drop n s p (suc q) ∙ ap (bytes_from n s) (add-suc p q)))

-- zeros, with what the image has from a place on copied over them
pub read_over : (n p : ℕ) (s : List ℕ) {from : ℕ} → from ≡ min p (length s)
    → sets (replicate n 0) 0 (mid_of from (length s - from) s) ≡ bytes_from n s p
read_over n p s {from} e =
    over_zeros n (mid_of from (length s - from) s)
    ∙ ap (λ (l : List ℕ). bytes_from n l 0) (take_all (length s - from) (drop from s) (simp length-drop (omega arith)) ∙ drop_clipped p s e)
    ∙ bytes_drop n s p 0
    ∙ ap (bytes_from n s) (add-zero p)

-- the whole header: first is where it begins, and q where code32_start does
pub header_made : {first from q : ℕ} {h r : List ℕ} (s : List ℕ) (load : ℕ) → first ≡ place_of 0 → from ≡ min first (length s)
    → h ≡ sets (replicate header_size 0) 0 (mid_of from (length s - from) s) → q ≡ place_of 16 → r ≡ sets h (q - first) (le_bytes 4 load) → r ≡ header_of s load
unfolding header_of
header_made {first} s load ep ef eh eq er =
    er ∙ rw (eh ∙ read_over header_size first s ef, ep, eq, at_setup_sects, at_code32_start)
