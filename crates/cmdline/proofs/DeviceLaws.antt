-- Laws of the text of a device: its parts in turn, and how long they are.
use Rattle.std.specs.Prelude.{Some, None, Option}
use Prim.Native.Nat.{ℕ, zero, suc, ◌/◌, ◌%◌, ◌^◌, ◌≤◌, ◌<◌}
use mathlib.Core.Path.{◌≡◌, refl, sym}
use mathlib.Core.List.{List, [], ◌∷◌, ◌++◌, append_assoc}
use native.Mathlib.Omega.{arith}
use lib.ListN.{length, get_or}
use borrow.Author.Tests.{eq-eqb, ne_eqb}
use Rattle.answers.specs.Pick.{pick}
use Rattle.slugs.specs.Bytes.{colon}
use Rattle.cmdline.specs.Digits.{decimal, hexadecimal}
use Rattle.cmdline.specs.Device.{size_text, id_text, prefix, at_hex, front_text}
use Rattle.slugs.specs.Stored.{Stored}
use Rattle.cmdline.proofs.DeviceFits.{decimal_few}

-- ---- a size

module _ (n : ℕ) where
  pub size_G : n % 0x40000000 ≡ 0 → size_text n ≡ decimal (n / 0x40000000) ++ (71 ∷ [])
  unfolding size_text pick
  size_G e = rw (eq-eqb (n % 0x40000000) 0 e)

  pub size_M : (n % 0x40000000 ≡ 0 → ⊥) → n % 0x100000 ≡ 0 → size_text n ≡ decimal (n / 0x100000) ++ (77 ∷ [])
  unfolding size_text pick
  size_M z e = rw (ne_eqb (n % 0x40000000) 0 z, eq-eqb (n % 0x100000) 0 e)

  pub size_K : (n % 0x40000000 ≡ 0 → ⊥) → (n % 0x100000 ≡ 0 → ⊥) → n % 0x400 ≡ 0 → size_text n ≡ decimal (n / 0x400) ++ (75 ∷ [])
  unfolding size_text pick
  size_K z y e = rw (ne_eqb (n % 0x40000000) 0 z, ne_eqb (n % 0x100000) 0 y, eq-eqb (n % 0x400) 0 e)

  pub size_plain : (n % 0x40000000 ≡ 0 → ⊥) → (n % 0x100000 ≡ 0 → ⊥) → (n % 0x400 ≡ 0 → ⊥) → size_text n ≡ decimal n
  unfolding size_text pick
  size_plain z y x = rw (ne_eqb (n % 0x40000000) 0 z, ne_eqb (n % 0x100000) 0 y, ne_eqb (n % 0x400) 0 x)

-- the units, each with its letter
abbrev pub units : List (ℕ × ℕ)
units = (0x40000000, 71) ∷ (0x100000, 77) ∷ (0x400, 75) ∷ []

-- none of the first i units divides
pub record NoneOf (n i : ℕ) : Type 0 where
  pub giga : 0 < i → n % 0x40000000 ≡ 0 → ⊥
  pub mega : 1 < i → n % 0x100000 ≡ 0 → ⊥
  pub kilo : 2 < i → n % 0x400 ≡ 0 → ⊥

pub none_yet : (n : ℕ) → NoneOf n 0
none_yet n = record { giga = λ h. absurd (omega arith); mega = λ h. absurd (omega arith); kilo = λ h. absurd (omega arith) }

pub none_more : (n i : ℕ) {j : ℕ} → j ≡ suc i → i < 3 → NoneOf n i → (n % (get_or units i (0, 0)).0 ≡ 0 → ⊥) → NoneOf n j
none_more n zero e h w z = record { giga = λ l. z; mega = λ l. absurd (omega arith); kilo = λ l. absurd (omega arith) }
none_more n (suc zero) e h w z = record { giga = λ l. w.giga (omega arith); mega = λ l. z; kilo = λ l. absurd (omega arith) }
none_more n (suc (suc zero)) e h w z = record { giga = λ l. w.giga (omega arith); mega = λ l. w.mega (omega arith); kilo = λ l. z }
none_more n (suc (suc (suc i))) e h w z = absurd (omega arith)

-- the first that does
pub size_unit : (n i : ℕ) → i < 3 → NoneOf n i → n % (get_or units i (0, 0)).0 ≡ 0
    → decimal (n / (get_or units i (0, 0)).0) ++ ((get_or units i (0, 0)).1 ∷ []) ≡ size_text n
size_unit n zero h w e = sym (size_G n e)
size_unit n (suc zero) h w e = sym (size_M n (w.giga (omega arith)) e)
size_unit n (suc (suc zero)) h w e = sym (size_K n (w.giga (omega arith)) (w.mega (omega arith)) e)
size_unit n (suc (suc (suc i))) h w e = absurd (omega arith)

-- none does
pub size_bare : (n i : ℕ) → 3 ≤ i → NoneOf n i → decimal n ≡ size_text n
size_bare n i h w = sym (size_plain n (w.giga (omega arith)) (w.mega (omega arith)) (w.kilo (omega arith)))

-- ---- the parts of the text, put one after the other

pub front_parts : (n b i : ℕ) → ((((prefix ++ size_text n) ++ at_hex) ++ hexadecimal b) ++ (colon ∷ [])) ++ decimal i ≡ front_text n b i
unfolding front_text
front_parts n b i = simp append_assoc

pub id_none : {d : List ℕ} {at : ℕ} (id : Option ℕ) → id ≡ None → at ≤ length d → (Stored d at (id_text id) d at) × (length (id_text id) ≤ 11)
unfolding id_text
id_none id e h = rw e (record { bytes = refl; place = omega arith }, omega arith)

pub id_number : {d left : List ℕ} {at r : ℕ} (id : Option ℕ) (x : ℕ) → id ≡ Some x → x < 2 ^ 32 → Stored d at ((colon ∷ []) ++ decimal x) left r
    → (Stored d at (id_text id) left r) × (length (id_text id) ≤ 11)
unfolding id_text
id_number id x e h w = rw e (w, let few = decimal_few x h in omega arith)
