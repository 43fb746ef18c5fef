-- Laws of bytes stored into a buffer: one text after another is the two joined.
use Prim.Native.Nat.{ℕ, ◌+◌, ◌-◌, ◌≤◌, min}
use mathlib.Core.Path.{◌≡◌, refl, sym, ap, ◌∙◌, subst}
use mathlib.Core.List.{List, [], ◌∷◌, ◌++◌}
use native.Mathlib.Omega.{arith}
use native.Mathlib.Decide.{dec_le}
use lib.ListN.{length, take, drop, length-append}
use lib.Seq.{sets, sets-eq, length-sets, take-append_seam}
use borrow.Author.Tests.{ne_eqb}
use borrow.Rule.Slice.PartMut.{mid_of, put_mid}
use Rattle.answers.specs.Pick.{pick}
use Rattle.fields.proofs.CopyingLaws.{sets_out, sets_clipped, sets_append}
use Rattle.slugs.specs.Bytes.{space}
use Rattle.slugs.specs.Stored.{Stored}
use Rattle.slugs.proofs.PartLaws.{rest_sets}
use Rattle.slugs.specs.Joining.{space_after}

-- a copy into the part of a buffer that begins at a place, clipped to the buffer
pub stored_part : (d s : List ℕ) (at : ℕ) {from : ℕ} {ys : List ℕ} {n : ℕ} → from ≡ min at (length d)
    → ys ≡ sets (mid_of from (length d - from) d) 0 s → n ≡ min (length s) (length d - from)
    → Stored d at s (put_mid from (length d - from) d ys) (from + n)
stored_part d s at {from} ef e n =
    record {
      bytes = ap (λ (l : List ℕ). put_mid from (length d - from) d l) e ∙ rest_sets from d s ∙ sets_clipped s d at from ef;
      place = omega arith;
    }

-- the same bytes, written another way
pub stored_as : {d : List ℕ} {at : ℕ} {s t left : List ℕ} {r : ℕ} → s ≡ t → Stored d at s left r → Stored d at t left r
stored_as {d} {at} {s} {t} {left} {r} e w = subst (λ (x : List ℕ). Stored d at x left r) e w

-- the buffer is as long as it was
pub stored_long : {d : List ℕ} {at : ℕ} {s left : List ℕ} {r : ℕ} → Stored d at s left r → length left ≡ length d
stored_long {d} {at} {s} w = ap length w.bytes ∙ length-sets d at s

-- and the place after them is in it
pub stored_within : {d : List ℕ} {at : ℕ} {s left : List ℕ} {r : ℕ} → Stored d at s left r → r ≤ length left
stored_within w = let l = stored_long w in let p = w.place in omega arith

-- and then another text, from the place after the first
pub then : {d : List ℕ} {at : ℕ} {s left : List ℕ} {r : ℕ} {t last : List ℕ} {end : ℕ} → Stored d at s left r → Stored left r t last end
    → Stored d at (s ++ t) last end
then {d} {at} {s} {left} {r} {t} {last} {end} a b =
    record {
      bytes = b.bytes ∙ split (dec_le (at + length s) (length d)) ∙ ap (λ (l : List ℕ). sets l (at + length s) t) a.bytes ∙ sym (sets_append s t d at (at + length s) refl);
      place = let n = length-append s t in let l = stored_long a in let p = a.place in let q = b.place in omega arith;
    }
  where
    split : Dec (at + length s ≤ length d) → sets left r t ≡ sets left (at + length s) t
    split (yes h) = let p = a.place in ap (λ (k : ℕ). sets left k t) (let e : r ≡ at + length s = omega arith in e)
    split (no h) =
        let l = stored_long a in
        let p = a.place in
        sets_out t left r (omega arith) ∙ sym (sets_out t left (at + length s) (omega arith))

-- ---- in turns

-- t is still to be stored in d, from a place on, to make of the first buffer what the whole makes of it
pub record Left (first : List ℕ) (start : ℕ) (whole d : List ℕ) (at : ℕ) (t : List ℕ) : Type 0 where
  pub still : Stored first start whole (sets d at t) (min (at + length t) (length d))

pub left_all : (d s : List ℕ) (at : ℕ) → Left d at s d at s
left_all d s at = record { still = record { bytes = refl; place = refl } }

-- one part of it is stored
pub left_on : {first whole d next : List ℕ} {start at place : ℕ} {all : List ℕ} (s t : List ℕ) → all ≡ s ++ t → Stored d at s next place
    → Left first start whole d at all → Left first start whole next place t
left_on {first} {whole} {d} {next} {start} {at} {place} {all} s t e a w =
    let both : Stored d at (s ++ t) (sets next place t) (min (place + length t) (length next)) = then a (record { bytes = refl; place = refl }) in
    let still : Stored first start whole (sets d at (s ++ t)) (min (at + length (s ++ t)) (length d)) = rw (← e) w.still in
    record { still = record { bytes = both.bytes ∙ still.bytes; place = both.place ∙ still.place } }

-- nothing is left
pub left_none : {first whole d t : List ℕ} {start at next : ℕ} → t ≡ [] → next ≡ min at (length d) → Left first start whole d at t
    → Stored first start whole d next
left_none {first} {whole} {d} {t} {start} {at} e en w =
    let last : Stored first start whole d (min (at + 0) (length d)) = rw e at w.still in
    record { bytes = last.bytes; place = let p = last.place in omega arith }

-- a text stored at the start of a buffer that it fits
pub stored_text : {d s left : List ℕ} {r : ℕ} → length s ≤ length d → Stored d 0 s left r → take r left ≡ s
stored_text {d} {s} {left} {r} h w =
    let place = w.place in
    let e : r ≡ length s = omega arith in
    rw (e, w.bytes, sets-eq s d 0 (omega arith)) (take-append_seam s (drop (0 + length s) d))

-- ---- a space after a text, unless it is empty

pub after_none : (n : ℕ) {d s left : List ℕ} {r : ℕ} → n ≡ 0 → Stored d 0 s left r → Stored d n (space_after n ++ s) left r
unfolding space_after pick
after_none n e w = rw e w

pub after_some : (n : ℕ) {d s left : List ℕ} {r : ℕ} → (n ≡ 0 → ⊥) → Stored d n ((space ∷ []) ++ s) left r → Stored d n (space_after n ++ s) left r
unfolding space_after pick
after_some n some w = rw (ne_eqb n 0 some) w
