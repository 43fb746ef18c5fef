-- The one part of a load: the kernel, the image from the setup size on, at the load address.
use Rattle.guest.specs.declared.GuestAddress.{GuestAddress}
use Rattle.std.specs.Prelude.{ℕ, List, Option}
use Rattle.guest.specs.declared.Part.{Part}
use Rattle.bzimage.specs.Kernel.{setup_size, kernel_size, load_of}

abbrev pub part_of : List ℕ → Option GuestAddress → Part
part_of image offset = record { address = load_of image offset; place = record { 0 = setup_size image }; size = kernel_size image }
