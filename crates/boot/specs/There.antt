-- What an accepted boot leaves: all of its pieces, at the same time.
use Rattle.std.specs.Prelude.{ℕ, ◌≡◌, List, length, get_or}
use Rattle.guest.specs.Stream.{pour}
use Rattle.loads.specs.declared.Options.{Options}
use Rattle.boot.specs.Blobs.{Blob, OneOf, Holds, OutOf}
use Rattle.boot.specs.Kernel.{kernel_stream, InKernel}

-- a kernel and other pieces, after a boot of guest memory that held `before`
pub record AllThere (image : List ℕ) (o : Options) (blobs : List Blob) (before after : List ℕ) : Type 0 where
  pub as_long : length after ≡ length before
  -- each other piece is there, whole
  pub pieces : (b : Blob) → OneOf b blobs → Holds b after
  -- no address that the kernel uses belongs to another piece
  pub apart : (a : ℕ) → InKernel image o a → OutOf a blobs
  -- a byte of no other piece is what the kernel's own load leaves there
  pub kernel : (a : ℕ) → OutOf a blobs → get_or after a 0 ≡ get_or (pour (kernel_stream image o) before) a 0
  -- and a byte that the kernel does not use either is as it was
  pub untouched : (a : ℕ) → OutOf a blobs → (InKernel image o a → ⊥) → get_or after a 0 ≡ get_or before a 0
