-- The sentence "the image bytes from the setup size on are the kernel, copied to the load address, all else untouched": after an accepted
-- load each byte of guest memory is the kernel's byte that covers it, or as it was.
use Rattle.std.specs.Prelude.{Ok, Option}
use Rattle.guest.specs.declared.GuestAddress.{GuestAddress}
use Rattle.guest.specs.Answers.{Answer}
use Prim.Native.Nat.{ℕ, ◌+◌, ◌<◌}
use mathlib.Core.Path.{◌≡◌, sym, ◌∙◌, ap}
use mathlib.Core.Bool.{true}
use mathlib.Core.List.{List}
use native.Mathlib.Omega.{arith}
use lib.ListN.{length, get_or}
use lib.Seq.{get_or-drop}
use Rattle.guest.specs.declared.Map.{Map}
use Rattle.guest.specs.Loading.{Plan}
use Rattle.guest.specs.Room.{room, memory_of}
use Rattle.guest.specs.Stream.{pour, Stands}
use Rattle.guest.proofs.StreamLaws.{poured_stands}
use Rattle.guest.specs.declared.KernelLoaderResult.{KernelLoaderResult}
use Rattle.bzimage.specs.Copied.{Copied}
use Rattle.bzimage.specs.Kernel.{setup_size, kernel_of}
use Rattle.bzimage.specs.Plan.{plan_of, KernelLoads}
use Rattle.bzimage.proofs.KernelLaws.{length_kernel, kernel_place}
use Rattle.bzimage.proofs.PlanLaws.{hold_room, plan_loaded, loaded_plan}

kernel_byte : (s : List ℕ) (i : ℕ) → get_or (kernel_of s) i 0 ≡ get_or s (setup_size s + i) 0
unfolding kernel_of
kernel_byte s i = get_or-drop (setup_size s) s i 0

-- the kernel, poured where it has room
stands_copied : (s : List ℕ) (address : ℕ) {guest after : List ℕ} → Stands (kernel_of s) address guest after → Copied s address guest after
stands_copied s address stands =
    let len = length_kernel s in
    record {
      as_long = stands.as_long;
      in_image = kernel_place s;
      in_guest = λ i h. stands.in_guest i (omega arith);
      covered = λ i h. stands.covered i (omega arith) ∙ kernel_byte s i;
      untouched = λ a out. stands.untouched a (λ low high. out low (omega arith));
    }

-- ---- of the load's contract

module _ (image : List ℕ) (offset highmem : Option GuestAddress) (map : Map) (guest : List ℕ) {r : Answer} {after : List ℕ} (loads : KernelLoads image offset highmem map guest r after) where
  planned : (plan_of image (memory_of guest map) offset highmem).answer ≡ r
  planned = sym loads.answer

  pub accepted_copies : {k : KernelLoaderResult} → r ≡ Ok k → Copied image k.kernel_load.0 guest after
  accepted_copies {k} e =
      let loaded = plan_loaded image (memory_of guest map) offset highmem (planned ∙ e) in
      let len = length_kernel image in
      let has : 0 < length (kernel_of image) → room (memory_of guest map) k.kernel_load.0 (length (kernel_of image)) ≡ true =
      λ some. rw (len, loaded.1) (hold_room image (memory_of guest map) offset highmem loaded.0 (omega arith)) in
      stands_copied image k.kernel_load.0
      (poured_stands (kernel_of image) k.kernel_load.0 guest (memory_of guest map) has (omega arith)
      (loads.memory ∙ ap (λ (p : Plan Answer). pour p.stream guest) (loaded_plan image (memory_of guest map) offset highmem (planned ∙ e))))
