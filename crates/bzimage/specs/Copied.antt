-- A kernel that is copied to an address, and nothing else.
use Rattle.std.specs.Prelude.{ℕ, ◌+◌, ◌≤◌, ◌<◌, ◌≡◌, List, length, get_or}
use Rattle.bzimage.specs.Kernel.{setup_size, kernel_size}

-- byte i of the kernel stands in the image, and now in guest memory at the address + i
pub record Copied (image : List ℕ) (address : ℕ) (guest after : List ℕ) : Type 0 where
  pub as_long : length after ≡ length guest
  pub in_image : (i : ℕ) → i < kernel_size image → setup_size image + i < length image
  pub in_guest : (i : ℕ) → i < kernel_size image → address + i < length guest
  pub covered : (i : ℕ) → i < kernel_size image → get_or after (address + i) 0 ≡ get_or image (setup_size image + i) 0
  pub untouched : (a : ℕ) → (address ≤ a → a < address + kernel_size image → ⊥) → get_or after a 0 ≡ get_or guest a 0
