-- Laws of the kernel's size and bytes, and of a field that is read at a place of the table.
use Prim.Native.Nat.{ℕ, ◌+◌, ◌<◌}
use mathlib.Core.Path.{◌≡◌, ◌∙◌, ap}
use mathlib.Core.List.{List}
use native.Mathlib.Omega.{arith}
use lib.ListN.{length, take, drop, length-drop}
use lib.Seq.{take_all}
use Rattle.fields.specs.Numbers.{le, ReadAs}
use Rattle.guest.specs.Stream.{bytes_at}
use Rattle.bzimage.specs.Kernel.{setup_size, kernel_of, kernel_size}

-- a field of n bytes, read at a place p that is its own
pub field_read : {n p v : ℕ} (q : ℕ) (s : List ℕ) → p ≡ q → ReadAs n s p v → v ≡ le n s q
field_read {n} q s e r = r.value ∙ ap (le n s) e

-- the kernel has the kernel's size
pub length_kernel : (s : List ℕ) → length (kernel_of s) ≡ kernel_size s
unfolding kernel_of kernel_size
length_kernel s = length-drop (setup_size s) s

-- each of its bytes stands in the image
pub kernel_place : (s : List ℕ) (i : ℕ) → i < kernel_size s → setup_size s + i < length s
unfolding kernel_size
kernel_place s i h = omega arith

-- so many bytes from the setup size on are the kernel
pub kernel_bytes : (s : List ℕ) {p n : ℕ} → p ≡ setup_size s → n ≡ kernel_size s → bytes_at s p n ≡ kernel_of s
unfolding kernel_of
kernel_bytes s {p} {n} ep en =
    let len = length_kernel s in
    ap (λ (k : ℕ). take n (drop k s)) ep ∙ take_all n (drop (setup_size s) s) (omega arith)
