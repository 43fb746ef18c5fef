-- The arm64 Image of the Linux boot document: a header of 64 bytes at the start of the file, which goes to guest memory with the rest of it.
use Rattle.std.specs.Prelude.{ℕ, ◌+◌, List, Option, Some, None}
use Rattle.answers.specs.Pick.{pick}
use Rattle.fields.specs.Numbers.{le}
use Rattle.fields.specs.Ranges.{fits64}
use Rattle.guest.specs.declared.GuestAddress.{GuestAddress}

abbrev pub header_size : ℕ
header_size = 64

-- the fields that a load reads, at their places
abbrev pub text_offset : List ℕ → ℕ
text_offset image = le 8 image 8

abbrev pub image_size : List ℕ → ℕ
image_size image = le 8 image 16

abbrev pub flags : List ℕ → ℕ
flags image = le 8 image 24

abbrev pub magic : List ℕ → ℕ
magic image = le 4 image 56

-- "ARM\x64"
abbrev pub the_magic : ℕ
the_magic = 0x644D5241

-- what a base is a multiple of, 2 MiB
abbrev pub alignment : ℕ
alignment = 0x200000

-- where the file goes, and where the memory ends that the kernel asks for; both as whole numbers
abbrev pub start_of : List ℕ → ℕ → ℕ
start_of image base = base + text_offset image

abbrev pub end_of : List ℕ → ℕ → ℕ
end_of image base = start_of image base + image_size image

-- where the file goes, if that is a number of 64 bits
unfoldable pub start_in : List ℕ → ℕ → Option GuestAddress
start_in image base = pick (fits64 base (text_offset image)) (Some (record { 0 = start_of image base })) None
