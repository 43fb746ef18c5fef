-- "The page read back equal": after an accepted boot by zero page, the page in guest memory has each field that was given, and a
-- reader of it gives the rows, the addresses and the setup header back.
use Rattle.std.specs.Prelude.{Ok, Option, is_ok, Result}
use Prim.Native.Nat.{ℕ, ◌-◌, ◌≤◌, ◌<◌}
use mathlib.Core.Path.{◌≡◌, sym, ◌∙◌, ap, refl}
use mathlib.Core.List.{List}
use native.Mathlib.Omega.{arith}
use lib.ListN.{length, get_or, take, drop, length-take, length-drop}
use lib.Seq.{sets, ext_get_or, get_or-take, get_or-drop}
use native.Mathlib.Decide.{dec_le}
use Rattle.answers.specs.Pick.{pick}
use Rattle.answers.specs.Tests.{Check, pass}
use Rattle.boot_page.specs.Building as page
use Rattle.boot_page.specs.Map.{count_of}
use Rattle.boot_page.specs.Page.{Fit32, IsPage, SetHeader}
use Rattle.boot_page.specs.Places.{page_size}
use Rattle.boot_page.specs.Reading.{Reads}
use Rattle.boot_page.specs.declared.Addresses.{Addresses}
use Rattle.answers.specs.declared.Refusal.{Refusal}
use Rattle.boot_page.specs.declared.Page.{Page}
use Rattle.bzimage.specs.Header as bzimage
use Rattle.boot_page.proofs.ReadBack.{built_page, answer_back, setup_header_back, rows_back_read}
use Rattle.boot_page.proofs.PartsLaws.{page_length}
use Rattle.cmdline.specs.Text.{Text}
use Rattle.guest.specs.Stream.{bytes_at}
use Rattle.guest.specs.Room.{memory_of}
use Rattle.guest.specs.declared.Map.{Map}
use Rattle.loads.specs.Formats as kernel
use Rattle.loads.specs.declared.Options.{Options}
use Rattle.boot.specs.Blobs.{first, next, Holds}
use Rattle.boot.specs.Plan.{boot_stream, Answer}
use Rattle.boot.specs.ZeroPage.{setup_by, addresses_of, tests, blobs_of, entry, Boots}
use Rattle.boot.specs.declared.Booted as result
use Rattle.boot.specs.declared.zero_page.ZeroPage.{ZeroPage}
use Rattle.guest.specs.declared.KernelLoaderResult.{KernelLoaderResult}
use Rattle.boot.proofs.PlanLaws.{booted_by}
use Rattle.boot.proofs.ZeroPageLaws.{page_open}
use Rattle.boot.proofs.ZeroPageThere.{booted_there}

-- bytes that are in guest memory are read there
pub held_bytes : (a : ℕ) (vs guest : List ℕ) → Holds (a, vs) guest → bytes_at guest a (length vs) ≡ vs
held_bytes a vs guest holds = ext_get_or 0 (take (length vs) (drop a guest)) vs as_long (λ i lt. let l = as_long in at i (omega arith))
  where
    split : Dec (1 ≤ length vs) → length (take (length vs) (drop a guest)) ≡ length vs
    split (yes some) =
        let last = holds.in_guest (length vs - 1) (omega arith) in
        let l = length-take (length vs) (drop a guest) in
        let k = length-drop a guest in
        omega arith
    split (no none) = let l = length-take (length vs) (drop a guest) in omega arith

    as_long : length (take (length vs) (drop a guest)) ≡ length vs
    as_long = split (dec_le 1 (length vs))

    at : (i : ℕ) → i < length vs → get_or (take (length vs) (drop a guest)) i 0 ≡ get_or vs i 0
    at i lt = get_or-take (length vs) (drop a guest) i 0 lt ∙ get_or-drop a guest i 0 ∙ holds.byte i lt

module _ (image : List ℕ) (o : Options) (limit : Option ℕ) (t : Text) (z : ZeroPage) (ramdisk rows : List ℕ) (map : Map) (before : List ℕ) {r : Answer}
    {after : List ℕ} (boots : Boots image o limit t z ramdisk rows map before r after) {b : result.Booted} (booted : r ≡ Ok b)
    (fit : Fit32 (addresses_of z (length ramdisk))) where
  abbrev header : List ℕ
  header = setup_by o.format image b.kernel.kernel_load.0

  abbrev named : Addresses
  named = addresses_of z (length ramdisk)

  -- the bytes of the page in guest memory
  abbrev pub page_in : List ℕ
  page_in = bytes_at after z.page page_size

  as_built : page_in ≡ page.page_of header named rows
  as_built =
      let len = page_length header named rows in
      ap (λ (n : ℕ). bytes_at after z.page n) (sym len)
      ∙ held_bytes z.page (page.page_of header named rows) after
      ((booted_there image o limit t z ramdisk rows map before boots booted).pieces (z.page, page.page_of header named rows) (next (next first)))

  checks : page.gate_of page_size rows ≡ pass
  checks =
      let m = memory_of before map in
      let by = booted_by (tests m image o limit t z (length ramdisk) rows) (entry o z)
      (λ (k : KernelLoaderResult). boot_stream image o (blobs_of image o t z ramdisk rows k)) (kernel.answer_of image m o) (sym boots.answer ∙ booted) in
      page_open m image o limit t z (length ramdisk) rows by.k by.hold

  -- so it is what building a page over it would leave
  builds : page.Builds header named rows page_in pass page_in
  unfolding pick
  builds =
      let len : length page_in ≡ page_size = ap length as_built ∙ page_length header named rows in
      let opens : page.gate_of (length page_in) rows ≡ pass = ap (λ (n : ℕ). page.gate_of n rows) len ∙ checks in
      record {
        answer = sym opens;
        page = as_built ∙ sym (ap (λ (g : Check). pick (is_ok g) (page.page_of header named rows) page_in) opens);
      }

  pub page_is : IsPage header named rows page_in
  page_is = built_page header named rows page_in builds refl fit

  -- and a reader of it gives everything back
  module _ (list : List ℕ) {said : Result Page Refusal} {List-left : List ℕ} (reads : Reads page_in list said List-left) where
    pub page_read : said ≡ Ok (record { rows = count_of rows; addresses = named; setup_header = bzimage.header_read page_in })
    page_read = answer_back header named rows page_in builds refl fit list reads

    pub header_read : {found : Page} → said ≡ Ok found → SetHeader header named found.setup_header
    header_read = setup_header_back header named rows page_in builds refl fit list reads

    pub rows_read : length rows ≤ length list → List-left ≡ sets list 0 rows
    rows_read = rows_back_read header named rows page_in builds refl fit list reads
