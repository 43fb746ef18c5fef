-- "After an accepted boot, at one time, each piece is there": a kernel and blobs that are apart from it and from each other.
use Prim.Native.Nat.{ℕ, ◌≤◌, ◌<◌}
use mathlib.Core.Path.{◌≡◌, ◌∙◌, ap, subst⁻¹}
use mathlib.Core.Bool.{true}
use mathlib.Core.List.{List}
use lib.ListN.{length, get_or}
use Rattle.guest.specs.Room.{room}
use Rattle.guest.specs.Stream.{pour}
use Rattle.guest.specs.declared.Memory.{Memory}
use Rattle.guest.proofs.StreamLaws.{length_pour, pour_append}
use Rattle.loads.specs.declared.Options.{Options}
use native.Mathlib.Omega.{arith}
use Rattle.boot.specs.Blobs.{Blob, stream_of, OneOf, Holds, AllApart}
use Rattle.boot.specs.Kernel.{kernel_apart, kernel_stream}
use Rattle.boot.specs.Plan.{extent, boot_stream}
use Rattle.boot.specs.There.{AllThere}
use Rattle.boot.proofs.BlobsHold.{blobs_outside, blobs_hold}
use Rattle.boot.proofs.KernelLaws.{kernel_apart_lem, kernel_outside}

-- each blob is apart from the kernel, and has room if it has bytes
abbrev pub KernelApart : List ℕ → Options → List Blob → Type 0
KernelApart image o bs = (b : Blob) → OneOf b bs → kernel_apart image o (extent b.0 (length b.1)) ≡ true

abbrev pub HaveRoom : Memory → List Blob → Type 0
HaveRoom m bs = (b : Blob) → OneOf b bs → 0 < length b.1 → room m b.0 (length b.1) ≡ true

pub all_there : (image : List ℕ) (o : Options) (bs : List Blob) → AllApart bs → KernelApart image o bs → (m : Memory) → HaveRoom m bs
    → (before : List ℕ) → m.size ≤ length before → {after : List ℕ} → after ≡ pour (boot_stream image o bs) before
    → AllThere image o bs before after
all_there image o bs apart from_kernel m rooms before fits {after} e =
    record {
      as_long = ap length e ∙ length_pour (boot_stream image o bs) before;
      pieces = λ b one. subst⁻¹ (Holds b) as_two (blobs_hold bs apart b one m (rooms b one) g (let len = kept in omega arith));
      apart = λ a in-kernel b one among. kernel_apart_lem image o (extent b.0 (length b.1)) (from_kernel b one) a in-kernel among;
      kernel = λ a out. ap (λ (l : List ℕ). get_or l a 0) as_two ∙ blobs_outside bs a out g;
      untouched = λ a out not-kernel. ap (λ (l : List ℕ). get_or l a 0) as_two ∙ blobs_outside bs a out g ∙ kernel_outside image o a not-kernel before;
    }
  where
    g : List ℕ
    g = pour (kernel_stream image o) before

    kept : length g ≡ length before
    kept = length_pour (kernel_stream image o) before

    as_two : after ≡ pour (stream_of bs) g
    as_two = e ∙ pour_append (kernel_stream image o) (stream_of bs) before
