-- The table of the setup header, proved in one computed test: each of the thirty-nine fields stands where the boot protocol 2.15 puts
-- it, and the sizes sum to 123.
use mathlib.Core.Path.{◌≡◌, refl, ap, sym, ◌∙◌}
use mathlib.Core.List.{List, [], ◌∷◌, ◌++◌}
use Prim.Native.Nat.{ℕ, zero, suc, ◌+◌, ◌≤◌, ◌<◌, min}
use native.Mathlib.Omega.{arith}
use native.Mathlib.Decide.{dec_le}
use native.Mathlib.Numerals.{add-one}
use lib.ListN.{length, get_or, take, length-take}
use lib.Seq.{take_all, get_or-take}
use Rattle.bzimage.specs.SetupHeader.{header_size, sizes, total, place_of, header_start, protocol_places, setup_sects, header_magic, version, loadflags, code32_start}

-- ---- any table

-- where fields of these sizes begin from a place on, and where the last one ends
unfoldable places_from : ℕ → List ℕ → List ℕ
places_from p [] = p ∷ []
places_from p (n ∷ ns) = p ∷ places_from (p + n) ns

-- it is the running sum
place_sums : (k p : ℕ) (ns : List ℕ) → k ≤ length ns → get_or (places_from p ns) k 0 ≡ p + total (take k ns)
unfolding places_from total
place_sums zero p [] h = omega arith
place_sums zero p (n ∷ ns) h = omega arith
place_sums (suc k) p [] h = absurd (omega arith)
place_sums (suc k) p (n ∷ ns) h = place_sums k (p + n) ns (omega arith) ∙ omega arith

-- one field more
total_next : (i : ℕ) (ns : List ℕ) → total (take (suc i) ns) ≡ total (take i ns) + get_or ns i 0
unfolding total
total_next zero [] = refl
total_next (suc i) [] = refl
total_next zero (n ∷ ns) = omega arith
total_next (suc i) (n ∷ ns) = ap (λ (m : ℕ). n + m) (total_next i ns) ∙ omega arith

total_grows : (i k : ℕ) (ns : List ℕ) → i ≤ k → total (take i ns) ≤ total (take k ns)
unfolding total
total_grows (suc i) zero ns h = elim h [ ]
total_grows zero k ns h = omega arith
total_grows (suc i) (suc k) [] h = omega arith
total_grows (suc i) (suc k) (n ∷ ns) h = let rest = total_grows i k ns (omega arith) in omega arith

-- ---- this table

-- the computed test, over the whole table and its end
tested : places_from header_start sizes ≡ protocol_places ++ ((header_start + header_size) ∷ [])
unfolding places_from sizes protocol_places
tested = refl

many : length sizes ≡ 39
unfolding sizes
many = refl

-- every field stands where the protocol puts it; number 39 is the header's end
pub placed : (field : ℕ) → field ≤ 39 → place_of field ≡ get_or (protocol_places ++ ((header_start + header_size) ∷ [])) field 0
unfolding place_of
placed field h =
    sym (place_sums field header_start sizes (let m = many in omega arith)) ∙ ap (λ (l : List ℕ). get_or l field 0) tested

-- the sizes sum to 123: where the header ends, by the same test
pub sum_123 : total sizes ≡ 123
unfolding place_of protocol_places
sum_123 =
    let end = placed 39 (omega arith) in
    let m = many in
    ap total (sym (take_all 39 sizes (omega arith))) ∙ omega arith

-- the places of the fields that a load uses
pub at_setup_sects : place_of 0 ≡ setup_sects
unfolding protocol_places
at_setup_sects = placed 0 (omega arith)

pub at_header : place_of 8 ≡ header_magic
unfolding protocol_places
at_header = placed 8 (omega arith)

pub at_version : place_of 9 ≡ version
unfolding protocol_places
at_version = placed 9 (omega arith)

pub at_loadflags : place_of 14 ≡ loadflags
unfolding protocol_places
at_loadflags = placed 14 (omega arith)

pub at_code32_start : place_of 16 ≡ code32_start
unfolding protocol_places
at_code32_start = placed 16 (omega arith)

-- ---- summed field by field, as code does

pub place_next : (i : ℕ) → place_of (suc i) ≡ place_of i + get_or sizes i 0
unfolding place_of
place_next i = omega (arith, total_next i sizes)

-- a number past the last field gives the end
pub place_clipped : (field : ℕ) {k : ℕ} → k ≡ min field 39 → place_of k ≡ place_of field
unfolding place_of
place_clipped field {k} e = split (dec_le field 39)
  where
    split : Dec (field ≤ 39) → place_of k ≡ place_of field
    split (yes h) = ap place_of (let same : k ≡ field = omega arith in same)
    split (no h) =
        let m = many in
        ap (λ (l : List ℕ). header_start + total l) (take_all k sizes (omega arith) ∙ sym (take_all field sizes (omega arith)))

-- no sum passes the header's end
pub place_small : (field : ℕ) → field ≤ 39 → place_of field ≤ header_start + header_size
unfolding place_of
place_small field h =
    let m = many in
    let whole = ap total (take_all 39 sizes (omega arith)) ∙ sum_123 in
    let grows = total_grows field 39 sizes h in
    omega arith

-- ---- the sizes before a field, one after the other

module _ (n i : ℕ) {at v : ℕ} (below : i < length (take n sizes)) (here : at ≡ place_of i) (size : v ≡ get_or (take n sizes) i 0) where
  pub place_step : at + v ≡ place_of (i + 1)
  place_step =
      let len = length-take n sizes in
      let own = get_or-take n sizes i 0 (omega arith) in
      let next = place_next i in
      rw add-one (omega arith)

  pub step_small : at + v ≤ header_start + header_size
  step_small =
      let len = length-take n sizes in
      let m = many in
      let whole = place_small (i + 1) (omega arith) in
      let step = place_step in
      omega arith

-- all of them
pub place_end : (field : ℕ) {n i : ℕ} → n ≡ min field 39 → i ≡ length (take n sizes) → place_of i ≡ place_of field
place_end field {n} {i} en ei = place_clipped field (let len = length-take n sizes in let m = many in omega arith)
