-- Laws of a job's work, as the code does it.
use Rattle.std.specs.Prelude.{Result, Ok, Err, None}
use Rattle.guest.specs.Answers.{Answer}
use Prim.Native.Nat.{ℕ}
use mathlib.Core.Path.{◌≡◌, refl, sym, ap, ◌∙◌, subst, subst⁻¹}
use mathlib.Core.Bool.{Bool, true, false}
use mathlib.Core.List.{List}
use native.Mathlib.Omega.{arith}
use lib.ListN.{length, replicate, length-replicate}
use Rattle.answers.specs.Pick.{pick}
use Rattle.answers.specs.Tests.{asked_all, Check, pass}
use Rattle.answers.specs.declared.Refusal.{Refusal}
use Rattle.guest.specs.declared.KernelLoaderResult.{KernelLoaderResult}
use Rattle.guest.specs.declared.Map.{Map}
use Rattle.guest.specs.declared.Memory.{Memory}
use Rattle.guest.specs.Loading.{Plan, Loads}
use Rattle.guest.specs.Maps.{whole_map}
use Rattle.guest.specs.Room.{memory_of, whole_of}
use Rattle.guest.specs.Stream.{pour}
use Rattle.guest.proofs.LoadingLaws.{tests_open, tests_shut, load_length}
use Rattle.guest.proofs.StreamLaws.{pour_append}
use Rattle.cmdline.specs.declared.Cmdline.{Cmdline}
use Rattle.cmdline.specs.Held.{text_of, line_by, made_of}
use Rattle.cmdline.specs.Held.{line_of as cmdline_of}
use Rattle.cmdline.specs.Insertion.{plan_gate, settled}
use Rattle.cmdline.specs.Making.{try_from}
use Rattle.cmdline.specs.Text.{Text, empty}
use Rattle.cmdline.proofs.CountedSize.{from_fits}
use Rattle.cmdline.proofs.HeldTexts.{made_texts}
use Rattle.cmdline.proofs.MakingLaws.{from_most}
use Rattle.cmdline.proofs.Refusals.{answered_open, answered_shut}
use Rattle.loader.specs.Lines as loader
use Rattle.loads.specs.Formats.{plan_of, LoadSays}
use Rattle.loads.specs.declared.Options.{Options}
use Rattle.desk.specs.declared.table.Row.{Row}
use Rattle.desk.specs.Table.{job_tests, has_line, image_row, line_row, body_of}
use Rattle.desk.specs.Work.{image_format, image_plan, line_capacity, line_plan, with_line, add_plan, job_image_plan, bodies_plan, job_plan, Works}

-- ---- the image

pub image_loaded : (kind : ℕ) (image guest : List ℕ) {map : Map} {o : Options} {answer : Answer} {after : List ℕ} → map ≡ whole_map (length guest)
    → o ≡ record { format = image_format kind; kernel_offset = None; highmem_start = None } → LoadSays image o map guest answer after
    → Loads (image_plan kind image (whole_of (length guest))) guest answer after
image_loaded kind image guest {map} {o} {answer} {after} em eo w =
    subst (λ (x : Options). Loads (plan_of image (whole_of (length guest)) x) guest answer after) eo
    (subst (λ (x : Map). Loads (plan_of image (memory_of guest x) o) guest answer after) em w)

-- ---- the line

-- what a function that makes a line returned, by how its tests end
line_err : (check : Check) (line : Cmdline) {refusal : Refusal} → line_by check line ≡ Err refusal
    → check ≡ Err refusal
line_err (Ok _) line e = let w : ◌≡◌ {A = ℕ} 0 1 = cc in absurd (omega arith)
line_err (Err first) line {refusal} e = let is : ◌≡◌ {A = Refusal} first refusal = cc in ap Err is

line_ok : (check : Check) (line : Cmdline) {made : Cmdline} → line_by check line ≡ Ok made
    → (check ≡ pass) × (line ≡ made)
line_ok (Ok _) line {made} e = let is : ◌≡◌ {A = Cmdline} line made = cc in (refl, is)
line_ok (Err first) line e = let w : ◌≡◌ {A = ℕ} 0 1 = cc in absurd (omega arith)

module _ (text guest : List ℕ) (at : ℕ) {made : Result Cmdline Refusal}
    (makes : made ≡ cmdline_of (made_of (try_from text line_capacity))) where
  pub line_refused : {refusal : Refusal} → made ≡ Err refusal
      → Loads (line_plan text (whole_of (length guest)) at) guest (Err refusal) guest
  unfolding line_plan pour
  line_refused {refusal} e =
      let p = try_from text line_capacity in
      let shut = answered_shut (plan_gate p) (line_err (made_of p).answer (made_of p).line (sym makes ∙ e)) in
      rw (tests_shut Err p.tests (loader.plan_of p.text (whole_of (length guest)) at) shut)
      (record { answer = refl; memory = refl })

  -- the line that was made holds the texts of the plan
  accepted_texts : {line : Cmdline} → made ≡ Ok line
      → (plan_gate (try_from text line_capacity) ≡ pass) × (text_of line ≡ (try_from text line_capacity).text)
  accepted_texts {line} e =
      let p = try_from text line_capacity in
      let said = line_ok (made_of p).answer (made_of p).line (sym makes ∙ e) in
      let opens = answered_open (plan_gate p) said.0 in (
        opens,
        ap (λ (l : Cmdline). text_of l) (sym said.1) ∙ made_texts p (from_fits text line_capacity) (from_most text line_capacity)
            ∙ ap (λ (g : Check). settled g (empty 0) p.text) opens,
      )

  pub line_accepted : {line : Cmdline} {map : Map} {answer : Check} {after : List ℕ} → made ≡ Ok line
      → map ≡ whole_map (length guest)
      → Loads (loader.plan_of (text_of line) (memory_of guest map) at) guest answer after
      → Loads (line_plan text (whole_of (length guest)) at) guest answer after
  unfolding line_plan
  line_accepted {line} {map} {answer} {after} e em w =
      let accepted = accepted_texts e in
      let plan = loader.plan_of (try_from text line_capacity).text (whole_of (length guest)) at in
      let over : Loads (loader.plan_of (text_of line) (whole_of (length guest)) at) guest answer after =
      subst (λ (m : Map). Loads (loader.plan_of (text_of line) (memory_of guest m) at) guest answer after) em w in
      subst⁻¹ (λ (p : Plan Check). Loads p guest answer after)
      (tests_open Err (try_from text line_capacity).tests plan accepted.0)
      (subst (λ (t : Text). Loads (loader.plan_of t (whole_of (length guest)) at) guest answer after) accepted.1 over)

module _ (text guest : List ℕ) where
  pub add_after_refusal : {said : Answer} {refusal : Refusal} → said ≡ Err refusal
      → Loads (add_plan said text (whole_of (length guest))) guest (Err refusal) guest
  unfolding add_plan pour
  add_after_refusal e = rw e (record { answer = refl; memory = refl })

  pub add_line : {said r : Answer} {answer : Check} {after : List ℕ} (kernel : KernelLoaderResult) → said ≡ Ok kernel
      → Loads (line_plan text (whole_of (length guest)) kernel.kernel_end.0) guest answer after → r ≡ with_line kernel answer
      → Loads (add_plan said text (whole_of (length guest))) guest r after
  unfolding add_plan
  add_line kernel e w er = rw e (record { answer = er ∙ ap (with_line kernel) w.answer; memory = w.memory })

pub line_stands : (kernel : KernelLoaderResult) {answer : Check} → answer ≡ pass → Ok kernel ≡ with_line kernel answer
unfolding with_line
line_stands kernel e = rw e

pub line_fails : (kernel : KernelLoaderResult) {answer : Check} {refusal : Refusal} → answer ≡ Err refusal → Err refusal ≡ with_line kernel answer
unfolding with_line
line_fails kernel e = rw e

-- ---- the job

-- the bodies, as the rows say them
module _ (job guest : List ℕ) where
  abbrev m : Memory
  m = whole_of (length guest)

  pub image_of : {row : Row} {body : List ℕ} {said : Answer} {after : List ℕ} → row ≡ image_row job
      → body ≡ body_of job row → Loads (image_plan row.kind body m) guest said after
      → Loads (job_image_plan job m) guest said after
  image_of {row} {body} {said} {after} er eb w =
      subst (λ (r : Row). Loads (image_plan r.kind (body_of job r) m) guest said after) er
      (subst (λ (b : List ℕ). Loads (image_plan row.kind b m) guest said after) eb w)

  -- the line's body, after an image that was loaded
  pub line_of : (kernel : KernelLoaderResult) {said r : Answer} {row : Row} {body : List ℕ} {answer : Check}
      {after : List ℕ} → row ≡ line_row job → body ≡ body_of job row → said ≡ Ok kernel
      → Loads (line_plan body m kernel.kernel_end.0) guest answer after → r ≡ with_line kernel answer
      → Loads (add_plan said (body_of job (line_row job)) m) guest r after
  line_of kernel {said} {r} {row} {body} {answer} {after} er eb is w says =
      subst (λ (x : Row). Loads (add_plan said (body_of job x) m) guest r after) er
      (subst (λ (b : List ℕ). Loads (add_plan said b m) guest r after) eb (add_line body guest kernel is w says))

module _ (job before : List ℕ) where
  pub image_alone : {said : Answer} {after : List ℕ} → has_line job ≡ false → Loads (job_image_plan job (whole_of (length before))) before said after
      → Loads (bodies_plan job (whole_of (length before))) before said after
  unfolding bodies_plan pick
  image_alone e w = rw e w

  pub image_and_line : {said r : Answer} {middle after : List ℕ} → has_line job ≡ true → Loads (job_image_plan job (whole_of (length before))) before said middle
      → Loads (add_plan said (body_of job (line_row job)) (whole_of (length middle))) middle r after
      → Loads (bodies_plan job (whole_of (length before))) before r after
  unfolding bodies_plan pick
  image_and_line {said} {r} {middle} {after} e w v =
      let m = whole_of (length before) in
      let text = body_of job (line_row job) in
      let longs = load_length (job_image_plan job m) before middle w in
      let v' = subst (λ (n : ℕ). Loads (add_plan said text (whole_of n)) middle r after) longs v in
      let v'' = subst (λ (s : Answer). Loads (add_plan s text m) middle r after) w.answer v' in
      let image = job_image_plan job m in
      let line = add_plan image.answer text m in
      rw e
      (record {
        answer = v''.answer;
        memory = v''.memory ∙ ap (pour line.stream) w.memory ∙ sym (pour_append image.stream line.stream before);
      })

  -- an image that was refused is the end, with a line or without one
  pub image_refused : {refusal : Refusal} {after : List ℕ}
      → Loads (job_image_plan job (whole_of (length before))) before (Err refusal) after
      → Loads (bodies_plan job (whole_of (length before))) before (Err refusal) after
  image_refused {refusal} {after} w = split (has_line job) refl
    where
      split : (line : Bool) → has_line job ≡ line
          → Loads (bodies_plan job (whole_of (length before))) before (Err refusal) after
      split true e = image_and_line e w (add_after_refusal (body_of job (line_row job)) after refl)
      split false e = image_alone e w

  pub job_refused : {gate : Check} {refusal : Refusal} → gate ≡ asked_all pass (job_tests job) → gate ≡ Err refusal → Works job before (Err refusal) before
  unfolding job_plan pick
  job_refused asked is =
      let shut = sym asked ∙ is in
      record {
        said = sym (ap (λ (p : Plan Answer). p.answer) (tests_shut Err (job_tests job) (bodies_plan job (whole_of (length before))) shut));
        memory = rw shut;
      }

  pub job_done : {gate : Check} {said : Answer} {cleared after : List ℕ} → gate ≡ asked_all pass (job_tests job) → gate ≡ pass → cleared ≡ replicate (length before) 0
      → Loads (bodies_plan job (whole_of (length cleared))) cleared said after → Works job before said after
  unfolding job_plan pick
  job_done {gate} {said} {cleared} {after} asked is ec w =
      let opens = sym asked ∙ is in
      let m = whole_of (length before) in
      let longs : length cleared ≡ length before = ap length ec ∙ length-replicate (length before) 0 in
      let w' = subst (λ (n : ℕ). Loads (bodies_plan job (whole_of n)) cleared said after) longs w in
      let plan = tests_open Err (job_tests job) (bodies_plan job m) opens in
      record {
        said = w'.answer ∙ sym (ap (λ (p : Plan Answer). p.answer) plan);
        memory = rw opens (w'.memory ∙ ap (pour (bodies_plan job m).stream) ec ∙ sym (ap (λ (p : Plan Answer). pour p.stream (replicate (length before) 0)) plan));
      }
