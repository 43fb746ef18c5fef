-- Laws of a boot into memory that grows, and of a hole of the map: what every entry rests on.
use Rattle.std.specs.Prelude.{Ok, Err, Result, is_ok}
use Rattle.answers.specs.declared.Refusal.{Refusal}
use Prim.Native.Nat.{ℕ, ◌<◌}
use mathlib.Core.Path.{◌≡◌, sym, ◌∙◌, ap, subst⁻¹}
use mathlib.Core.Bool.{true}
use mathlib.Core.List.{List, [], ◌∷◌}
use native.Mathlib.Omega.{arith}
use lib.ListN.{length}
use Rattle.answers.specs.Pick.{pick}
use Rattle.answers.specs.Tests.{Test, AllHold}
use Rattle.answers.proofs.KeepingLaws.{kept}
use Rattle.fields.proofs.EveryLaws.{every_each, each_every}
use Rattle.guest.specs.Lent.{memory_tests}
use Rattle.guest.specs.Loading.{Plan}
use Rattle.guest.specs.Maps.{good_map}
use Rattle.guest.specs.Room.{room, Grows}
use Rattle.guest.specs.Sizes.{allowed}
use Rattle.guest.specs.Stream.{Poke, Inside, none, stream_at}
use Rattle.guest.specs.declared.Extent.{Extent}
use Rattle.guest.specs.declared.KernelLoaderResult.{KernelLoaderResult}
use Rattle.guest.specs.declared.Memory.{Memory}
use Rattle.guest.proofs.LoadingLaws.{LiftPlan, all_planned}
use Rattle.guest.proofs.RoomLaws.{room_for_grows}
use Rattle.guest.proofs.StreamLaws.{inside_append, inside_at}
use Rattle.cmdline.specs.Text.{Text}
use Rattle.loader.specs.Lines as line
use Rattle.loads.specs.Formats as formats
use Rattle.loads.specs.Growing.{ForRoom}
use Rattle.loads.specs.declared.Options.{Options}
use Rattle.loads.proofs.FormatsLaws as loads
use Rattle.loads.proofs.MoreMemory as more_memory
use Rattle.boot.specs.Blobs.{Blob, stream_of, first, next}
use Rattle.boot.specs.Checks.{pieces_tests}
use Rattle.boot.specs.Kernel.{room_at, kernel_room, kernel_stream}
use Rattle.boot.specs.Plan.{booted_at, boot_stream, plan_by}
use Rattle.boot.specs.declared.Booted as result
use Rattle.boot.proofs.AllThere.{HaveRoom}
use Rattle.boot.proofs.PlanLaws.{booted_by}

-- ---- what is written goes into memory

blob_inside : (m : Memory) (a : ℕ) (vs : List ℕ) → (0 < length vs → room m a (length vs) ≡ true) → Inside m (stream_at a vs)
unfolding stream_at
blob_inside m a [] has = none
blob_inside m a (v ∷ vs) has = inside_at m a (length (v ∷ vs)) (v ∷ vs) (has (omega arith)) (omega arith)

blobs_inside : (m : Memory) (bs : List Blob) → HaveRoom m bs → Inside m (stream_of bs)
unfolding stream_of
blobs_inside m [] rooms = none
blobs_inside m (b ∷ bs) rooms = inside_append (blob_inside m b.0 b.1 (rooms b first)) (blobs_inside m bs (λ c o. rooms c (next o)))

pub boot_inside : (m : Memory) (image : List ℕ) (o : Options) (bs : List Blob) {k : KernelLoaderResult} → formats.answer_of image m o ≡ Ok k
    → HaveRoom m bs → Inside m (boot_stream image o bs)
unfolding pick
boot_inside m image o bs e rooms =
    inside_append
    (subst⁻¹ (Inside m) (sym (ap (λ (a : Result KernelLoaderResult Refusal). pick (is_ok a) (kernel_stream image o) []) e)) (loads.plan_inside image m o)) (blobs_inside m bs rooms)

-- ---- memory that grows

module _ (m m' : Memory) (grows : Grows m m') where
  kernel_room_grows : (image : List ℕ) (o : Options) → kernel_room m image o ≡ true → kernel_room m' image o ≡ true
  unfolding kernel_room
  kernel_room_grows image o e =
      each_every (room_at m' image o) (formats.count_of image o)
      (λ i lt. room_for_grows m m' (formats.memory_of image o i).at.0 (formats.memory_of image o i).size grows (every_each (room_at m image o) (formats.count_of image o) i e lt))

  pub pieces_grow : (image : List ℕ) (o : Options) (width : ℕ) (rows : List ℕ) (line ramdisk boot : Extent)
      → AllHold (pieces_tests m image o width rows line ramdisk boot) → AllHold (pieces_tests m' image o width rows line ramdisk boot)
  pieces_grow image o width rows line ramdisk boot h = (
    kernel_room_grows image o h.0,
    (room_for_grows m m' ramdisk.at.0 ramdisk.size grows h.1.0, (room_for_grows m m' boot.at.0 boot.size grows h.1.1.0, h.1.1.1)),
  )

  pub line_grows : (t : Text) (a : ℕ) → AllHold (memory_tests m') → AllHold (line.tests t m a) → AllHold (line.tests t m' a)
  line_grows t a own h = (own.0, (own.1.0, (h.1.1.0, (grows.rooms a (length (line.line_bytes t)) h.1.1.1.0, tt))))

  module _ (both : allowed m'.size ≡ allowed m.size) (maps : good_map m'.size m'.map ≡ good_map m.size m.map) where
    kernel_kept : (image : List ℕ) (o : Options) {k : KernelLoaderResult} → formats.answer_of image m o ≡ Ok k
        → formats.answer_of image m' o ≡ Ok k
    kernel_kept image o {k} e =
        ap (λ (p : Plan (Result KernelLoaderResult Refusal)). p.answer)
        (kept (LiftPlan Err (ForRoom o.format)) (more_memory.plan_keeps image m m' o grows both maps)
        (λ l. let z : ◌≡◌ {A = ℕ} 0 1 = (let w = sym l.is ∙ e in cc) in absurd (omega arith)))
        ∙ e

    -- a boot that is accepted has the same plan
    pub plan_kept : (image : List ℕ) (o : Options) (row row' : KernelLoaderResult → List Test) (entry : KernelLoaderResult → ℕ) (stream : KernelLoaderResult → List Poke)
        → ((k : KernelLoaderResult) → AllHold (row k) → AllHold (row' k)) → {b : result.Booted}
        → (plan_by (formats.answer_of image m o) row entry stream).answer ≡ Ok b
        → plan_by (formats.answer_of image m' o) row' entry stream ≡ plan_by (formats.answer_of image m o) row entry stream
    plan_kept image o row row' entry stream holds e =
        let by = booted_by row entry stream (formats.answer_of image m o) e in
        let k = by.k in
        ap (λ (a : Result KernelLoaderResult Refusal). plan_by a row' entry stream) (kernel_kept image o by.loads)
        ∙ all_planned Err (row' k) (record { answer = booted_at k (entry k); stream = stream k }) (holds k by.hold)
        ∙ sym by.planned
