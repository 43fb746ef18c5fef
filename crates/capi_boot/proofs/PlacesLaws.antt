-- Laws of what is told of an address that is found, by the size of the list.
use Rattle.std.specs.Prelude.{Option}
use Rattle.guest.specs.declared.GuestAddress.{GuestAddress}
use Prim.Native.Nat.{ℕ}
use mathlib.Core.Path.{◌≡◌, refl}
use mathlib.Core.List.{List}
use borrow.Author.Tests.{eq-eqb, ne_eqb}
use lib.ListN.{length}
use lib.Seq.{sets}
use Rattle.answers.specs.Catalogue.{number_of}
use Rattle.answers.specs.declared.Refusal.TheVariants.{NoRoom}
use Rattle.capi.proofs.LoadsLaws.{picks, passes}
use Rattle.capi_boot.specs.Places.{found_number, found_values, PlaceTells}

module _ (found : Option GuestAddress) (out : List ℕ) where
  pub place_unsized : {r : ℕ} → (length out ≡ 1 → ⊥) → r ≡ number_of NoRoom → PlaceTells found out r out
  place_unsized other e =
      let f = ne_eqb (length out) 1 other in
      record { answer = passes (found_number found) f e; told = passes (sets out 0 (found_values found)) f refl }

  pub place_sized : {r : ℕ} {left : List ℕ} → length out ≡ 1 → r ≡ found_number found
      → left ≡ sets out 0 (found_values found) → PlaceTells found out r left
  place_sized same er el =
      let t = eq-eqb (length out) 1 same in
      record { answer = picks (number_of NoRoom) t er; told = picks out t el }
