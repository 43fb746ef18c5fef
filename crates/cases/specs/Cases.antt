-- The worked cases that are to be proved, as one list: loads of an ELF image, note walks, and calls on a line.
use Rattle.guest.specs.declared.GuestAddress.{GuestAddress}
use Rattle.std.specs.Prelude.{ℕ, List, [], ◌∷◌, ◌++◌, replicate, Some, None, Option}
use Rattle.answers.specs.Catalogue.{number_of}
use Rattle.answers.specs.declared.Refusal.{Refusal}
use Rattle.answers.specs.declared.Refusal.TheVariants as refusal
use Rattle.fields.specs.Numbers.{le_bytes}
use Rattle.guest.specs.Loading.{Plan}
use Rattle.guest.specs.Maps.{map_of}
use Rattle.guest.specs.Room.{memory_of, whole_of}
use Rattle.guest.specs.Stream.{pour}
use Rattle.elf.specs.Header.{magic}
use Rattle.elf.specs.Notes.{xen}
use Rattle.elf.specs.NoteWalk.{public_note}
use Rattle.elf.specs.Load.{note_number, note_values}
use Rattle.guest.specs.Answers.{pvh_code, answer_number, answer_values, Answer}
use Rattle.guest.specs.declared.PvhBootCapability.TheVariants.{PvhEntryIgnored}
use Rattle.loads.specs.Formats.{plan_of}
use Rattle.loads.specs.declared.Format.TheVariants.{Elf}
use Rattle.loads.specs.declared.Options.{Options}
use Rattle.slugs.specs.Bytes.{space, quote, dash, equals}
use Rattle.slugs.specs.Splitting.{separator}
use Rattle.cmdline.specs.Insertion.{call_number}
use Rattle.cmdline.specs.Writing.{written_number}
use Rattle.cmdline.specs.Calls.{Making, makes_new, makes_from, Call, inserts, inserts_str, inserts_init_args, Said, answered, wrote, compared, run}
use Rattle.cmdline.specs.Calls as calls

-- ---- the images

abbrev zeros : ℕ → List ℕ
zeros n = replicate n 0

-- the three file bytes
abbrev pub body : List ℕ
body = 0xAA ∷ 0xBB ∷ 0xCC ∷ []

-- the ELF image of 123 bytes: entry 16, and one program header, three bytes from place 120 to address 16, eight in memory
unfoldable pub e1 : List ℕ
e1 =
    magic ++ (0 ∷ 1 ∷ zeros 18)
    ++ le_bytes 8 16 ++ le_bytes 8 64 ++ zeros 14 ++ le_bytes 2 56 ++ le_bytes 2 1 ++ zeros 6
    ++ le_bytes 4 1 ++ zeros 4 ++ le_bytes 8 120 ++ zeros 8 ++ le_bytes 8 16 ++ le_bytes 8 3 ++ le_bytes 8 8 ++ zeros 8
    ++ body

-- the note of 20 bytes, whose descriptor is 100000 hex
unfoldable pub note : List ℕ
note = le_bytes 4 4 ++ le_bytes 4 4 ++ le_bytes 4 18 ++ xen ++ le_bytes 4 0x100000

-- ---- what is asked, and what comes of it

-- a load of e1 into so many zero bytes, the whole of them or with a map; a walk over the note with this file size; a line made and called at a capacity
pub data Ask : Type 0 where
  loads : ℕ → Option GuestAddress → Option GuestAddress → Ask
  loads_over : ℕ → List ℕ → Ask
  walks : ℕ → Ask
  lines : Making → List Call → ℕ → Ask

-- the catalogue's number, 0 for accepted; the values; and what is left: guest memory, or a line's boot text and init text
pub record Result : Type 0 where
  pub number : ℕ
  pub values : List ℕ
  pub left : List (List ℕ)

-- of a line, the number of what was said last
unfoldable pub said_number : Said → ℕ
said_number (answered a) = call_number a
said_number (wrote w bytes) = written_number w
said_number (compared b) = 0
said_number (calls.told values) = 0

unfoldable pub last_number : List Said → ℕ
last_number [] = 0
last_number (s ∷ []) = said_number s
last_number (s ∷ (u ∷ ss)) = last_number (u ∷ ss)

-- what a load of e1 by a plan says and leaves
abbrev planned : Plan Answer → ℕ → Result
planned plan size = record { number = answer_number plan.answer; values = answer_values plan.answer; left = pour plan.stream (zeros size) ∷ [] }

abbrev elf_with : Option GuestAddress → Option GuestAddress → Options
elf_with offset highmem = record { format = Elf; kernel_offset = offset; highmem_start = highmem }

unfoldable pub result_of : Ask → Result
result_of (loads size offset highmem) = planned (plan_of e1 (whole_of size) (elf_with offset highmem)) size
result_of (loads_over size numbers) = planned (plan_of e1 (memory_of (zeros size) (map_of numbers)) (elf_with None None)) size
result_of (walks size) =
    let said = public_note note (record { 0 = 0 }) size in
    record { number = note_number said; values = note_values said; left = [] }
result_of (lines making calls capacity) =
    let after = run making calls capacity in
    record { number = last_number after.said; values = []; left = after.text.boot ∷ after.text.init ∷ [] }

-- ---- the list

pub record Case : Type 0 where
  pub ask : Ask
  pub want : Result

abbrev at : ℕ → Option GuestAddress
at address = Some (record { 0 = address })

abbrev accepted : List ℕ → List (List ℕ) → Result
accepted values left = record { number = 0; values = values; left = left }

abbrev refused : Refusal → List (List ℕ) → Result
refused r left = record { number = number_of r; values = []; left = left }

-- load address, end, and PVH ignored
abbrev loaded : ℕ → ℕ → List ℕ
loaded load end = load ∷ end ∷ pvh_code PvhEntryIgnored ∷ 0 ∷ 0 ∷ 0 ∷ []

-- PVH present at 1048576, one header read, the descriptor of 4 bytes at place 16
abbrev present : List ℕ
present = 2 ∷ 1048576 ∷ 1 ∷ 16 ∷ 4 ∷ []

-- foo, bar, a, z and a="x -- y"
abbrev foo : List ℕ
foo = 102 ∷ 111 ∷ 111 ∷ []

abbrev bar : List ℕ
bar = 98 ∷ 97 ∷ 114 ∷ []

abbrev a : List ℕ
a = 97 ∷ []

abbrev z : List ℕ
z = 122 ∷ []

abbrev quoted_part : List ℕ
quoted_part = 97 ∷ equals ∷ quote ∷ 120 ∷ space ∷ dash ∷ dash ∷ space ∷ 121 ∷ quote ∷ []

unfoldable pub cases : List Case
cases =
    -- the image, with an offset, in memory that just holds its file bytes and in one byte less, and with highmem at its entry and above
    record { ask = loads 32 None None; want = accepted (loaded 16 24) ((zeros 16 ++ body ++ zeros 13) ∷ []) }
    ∷ record { ask = loads 32 (at 4) None; want = accepted (loaded 20 28) ((zeros 20 ++ body ++ zeros 9) ∷ []) }
    ∷ record { ask = loads 19 None None; want = accepted (loaded 16 24) ((zeros 16 ++ body) ∷ []) }
    ∷ record { ask = loads 18 None None; want = refused refusal.ReadKernelImage (zeros 18 ∷ []) }
    ∷ record { ask = loads 32 None (at 16); want = accepted (loaded 16 24) ((zeros 16 ++ body ++ zeros 13) ∷ []) }
    ∷ record { ask = loads 32 None (at 17); want = refused refusal.InvalidEntryAddress (zeros 32 ∷ []) }
    -- over a map: a range that just holds the file bytes, two ranges with a hole inside them, and two that touch
    ∷ record { ask = loads_over 32 (0 ∷ 8 ∷ 16 ∷ 3 ∷ []); want = accepted (loaded 16 24) ((zeros 16 ++ body ++ zeros 13) ∷ []) }
    ∷ record { ask = loads_over 32 (0 ∷ 17 ∷ 18 ∷ 14 ∷ []); want = refused refusal.ReadKernelImage (zeros 32 ∷ []) }
    ∷ record { ask = loads_over 32 (0 ∷ 16 ∷ 16 ∷ 16 ∷ []); want = refused refusal.BadMap (zeros 32 ∷ []) }
    -- the note, of which the walk reads the header where only its first byte is counted
    ∷ record { ask = walks 20; want = accepted present [] }
    ∷ record { ask = walks 1; want = accepted present [] }
    -- capacity 8 holds foo=bar, 7 does not
    ∷ record { ask = lines makes_new (inserts foo bar ∷ []) 8; want = accepted [] ((foo ++ (equals ∷ bar)) ∷ [] ∷ []) }
    ∷ record { ask = lines makes_new (inserts foo bar ∷ []) 7; want = refused refusal.TooLarge ([] ∷ [] ∷ []) }
    -- an empty slug on text costs one space
    ∷ record { ask = lines makes_new (inserts_str a ∷ inserts_str [] ∷ []) 3; want = accepted [] ((a ++ (space ∷ [])) ∷ [] ∷ []) }
    ∷ record { ask = lines makes_new (inserts_str a ∷ inserts_str [] ∷ []) 2; want = refused refusal.TooLarge (a ∷ [] ∷ []) }
    -- an empty init slug costs a separator, and leaves the line as it is
    ∷ record { ask = lines makes_new (inserts_str a ∷ inserts_init_args [] ∷ []) 6; want = accepted [] (a ∷ [] ∷ []) }
    ∷ record { ask = lines makes_new (inserts_str a ∷ inserts_init_args [] ∷ []) 5; want = refused refusal.TooLarge (a ∷ [] ∷ []) }
    -- a separator in quotes does not part the line, and the text is counted to its last byte
    ∷ record { ask = lines (makes_from (quoted_part ++ (separator ++ z))) [] 16; want = accepted [] (quoted_part ∷ z ∷ []) }
    ∷ record { ask = lines (makes_from (quoted_part ++ (separator ++ z))) [] 15; want = refused refusal.InvalidCapacity ([] ∷ [] ∷ []) }
    ∷ []
