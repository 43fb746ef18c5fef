-- Blobs that are apart and have room: after all of them were written each is there whole, and every other byte is as it was.
use Prim.Native.Nat.{ℕ, ◌+◌, ◌≤◌, ◌<◌}
use mathlib.Core.Path.{◌≡◌, ◌∙◌, refl, ap, subst⁻¹}
use mathlib.Core.Bool.{true}
use mathlib.Core.List.{List, [], ◌∷◌}
use native.Mathlib.Omega.{arith}
use lib.ListN.{length, get_or}
use Rattle.fields.specs.Ranges.{Among}
use Rattle.fields.proofs.ApartLaws.{apart_none}
use Rattle.fields.proofs.CopyingLaws.{sets_outside}
use Rattle.guest.specs.Room.{room}
use Rattle.guest.specs.Stream.{pour, stream_at}
use Rattle.guest.specs.declared.Memory.{Memory}
use Rattle.guest.proofs.StreamLaws.{length_pour, pour_append, pour_at, poured_stands}
use Rattle.boot.specs.Blobs.{Blob, stream_of, OneOf, first, next, Holds, OutOf, ApartFrom, AllApart}

-- one blob changes no byte that is not its own
pub blob_outside : (x : ℕ) (vs : List ℕ) (a : ℕ) → (Among a x (length vs) → ⊥) → (guest : List ℕ)
    → get_or (pour (stream_at x vs) guest) a 0 ≡ get_or guest a 0
blob_outside x vs a out guest =
    ap (λ (l : List ℕ). get_or l a 0) (pour_at vs guest x)
    ∙ sets_outside vs guest x a (λ low high. out (record { from = low; below = high }))

-- nor do several
pub blobs_outside : (bs : List Blob) (a : ℕ) → OutOf a bs → (guest : List ℕ) → get_or (pour (stream_of bs) guest) a 0 ≡ get_or guest a 0
unfolding stream_of pour
blobs_outside [] a out guest = refl
blobs_outside (b ∷ bs) a out guest =
    ap (λ (l : List ℕ). get_or l a 0) (pour_append (stream_at b.0 b.1) (stream_of bs) guest)
    ∙ blobs_outside bs a (λ c o. out c (next o)) (pour (stream_at b.0 b.1) guest)
    ∙ blob_outside b.0 b.1 a (out b first) guest

-- what is apart from a blob has no address of it
pub apart_out : (b : Blob) (cs : List Blob) → ApartFrom b cs → (a : ℕ) → Among a b.0 (length b.1) → OutOf a cs
apart_out b [] h a among d x3 = elim x3 [ ]
apart_out b (c ∷ cs) h a among d first = apart_none b.0 (length b.1) c.0 (length c.1) h.0 a among
apart_out b (c ∷ cs) h a among d (next o) = apart_out b cs h.1 a among d o

pub blobs_hold : (bs : List Blob) → AllApart bs → (b : Blob) → OneOf b bs → (m : Memory)
    → (0 < length b.1 → room m b.0 (length b.1) ≡ true) → (guest : List ℕ) → m.size ≤ length guest
    → Holds b (pour (stream_of bs) guest)
unfolding stream_of
blobs_hold [] h b x4 m has guest fits = elim x4 [ ]
blobs_hold (b ∷ bs) h _ first m has guest fits =
    let alone = poured_stands b.1 b.0 guest m has fits refl in
    let g = pour (stream_at b.0 b.1) guest in
    let len = length_pour (stream_of bs) g in
    let len' = length_pour (stream_at b.0 b.1) guest in
    let same = pour_append (stream_at b.0 b.1) (stream_of bs) guest in
    subst⁻¹ (Holds b) same
    (record {
      in_guest = λ i lt. let inside = alone.in_guest i lt in omega arith;
      byte =
          λ i lt.
          blobs_outside bs (b.0 + i) (apart_out b bs h.0 (b.0 + i) (record { from = omega arith; below = omega arith })) g
          ∙ alone.covered i lt;
    })
blobs_hold (c ∷ bs) h b (next o) m has guest fits =
    let len = length_pour (stream_at c.0 c.1) guest in
    subst⁻¹ (Holds b) (pour_append (stream_at c.0 c.1) (stream_of bs) guest)
    (blobs_hold bs h.1 b o m has (pour (stream_at c.0 c.1) guest) (omega arith))
