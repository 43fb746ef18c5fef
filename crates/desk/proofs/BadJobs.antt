-- "A table or job that breaks any of this is 70, asked first": a job is refused with 70 exactly where it is not a good
-- one, and prints `refused 70` (`bad_prints`). No refusal of a load, of `try_from` or of a line put into guest memory
-- has that number.
use Rattle.answers.specs.Tests.{Check}
use Rattle.std.specs.Prelude.{Ok, Err, None}
use Rattle.guest.specs.Answers.{Answer}
use Prim.Native.Nat.{ℕ}
use mathlib.Core.Path.{◌≡◌, refl, ap, subst}
use mathlib.Core.List.{List, [], ◌∷◌, ◌++◌}
use native.Mathlib.Omega.{arith}
use lib.Dec.{eqb}
use Rattle.answers.specs.Listing.{contains, Listed, row_listed}
use Rattle.answers.specs.declared.Refusal.{Refusal}
use Rattle.answers.specs.declared.Refusal.TheVariants.{BadJob}
use Rattle.answers.proofs.TestsLaws.{all_open, first_shut}
use Rattle.answers.proofs.ListingLaws.{first_listed, listed_left, listed_right}
use Rattle.answers.proofs.PickLaws.{pick_with}
use Rattle.guest.specs.Loading.{Plan}
use Rattle.guest.specs.Room.{whole_of}
use Rattle.guest.specs.declared.KernelLoaderResult.{KernelLoaderResult}
use Rattle.guest.specs.declared.Memory.{Memory}
use Rattle.guest.proofs.LoadingLaws.{behind_with}
use Rattle.elf.specs.Listing.{elf_numbers}
use Rattle.elf.proofs.ListedNumbers.{elf_listed}
use Rattle.bzimage.specs.Answers.{bz_image_numbers}
use Rattle.bzimage.proofs.Refusals.{bzimage_listed}
use Rattle.cmdline.specs.Making.{try_from}
use Rattle.loader.specs.Lines as loader
use Rattle.loader.proofs.Refusals.{line_listed}
use Rattle.loads.specs.Formats.{answer_by}
use Rattle.loads.specs.declared.Format.{Format}
use Rattle.loads.specs.declared.Format.TheVariants.{Elf, BzImage}
use Rattle.desk.specs.Table.{job_tests, image_row}
use Rattle.desk.specs.GoodJob.{GoodJob, job_numbers}
use Rattle.desk.specs.Printing.{refused_word, number_line, answer_text, printed}
use Rattle.desk.specs.Work.{image_format, image_plan, line_capacity, line_plan, with_line, add_plan, job_image_plan, bodies_plan, job_plan}
use Rattle.desk.proofs.GoodJobs.{tests_good, good_tests}
use Rattle.desk.proofs.Verdicts.{only_bad_job}

-- ---- what a good job answers: no refusal of an image or of a line has the number 70

data ListedSaid : Answer → Type 0 where
  loaded : {k : KernelLoaderResult} → ListedSaid (Ok k)
  refused : {r : Refusal} → Listed job_numbers r → ListedSaid (Err r)

-- an image of either kind, by what its format refuses with
by_format : (a : Answer) (numbers : List ℕ) → ((r : Refusal) → Listed numbers r → Listed job_numbers r) → ((r : Refusal) → a ≡ Err r → Listed numbers r)
    → ListedSaid a
by_format (Ok k) numbers among listed = loaded
by_format (Err r) numbers among listed = refused (among r (listed r refl))

line_said : (kernel : KernelLoaderResult) (a : Check) → ((r : Refusal) → a ≡ Err r → Listed (41 ∷ loader.line_numbers) r) → ListedSaid (with_line kernel a)
unfolding with_line
line_said kernel (Ok _) listed = loaded
line_said kernel (Err r) listed =
    refused (listed_right elf_numbers (bz_image_numbers ++ (41 ∷ loader.line_numbers)) r (listed_right bz_image_numbers (41 ∷ loader.line_numbers) r (listed r refl)))

image_said : (kind : ℕ) (image : List ℕ) (m : Memory) → ListedSaid (image_plan kind image m).answer
unfolding image_format answer_by
image_said kind image m =
    pick_with (λ (f : Format). ListedSaid (answer_by f image m None None)) (eqb kind 1)
    (λ _. by_format (answer_by Elf image m None None) elf_numbers (λ r l. listed_left elf_numbers (bz_image_numbers ++ (41 ∷ loader.line_numbers)) r l)
    (λ r e. elf_listed image m None None e))
    (λ _. by_format (answer_by BzImage image m None None) bz_image_numbers
    (λ r l. listed_right elf_numbers (bz_image_numbers ++ (41 ∷ loader.line_numbers)) r (listed_left bz_image_numbers (41 ∷ loader.line_numbers) r l))
    (λ r e. bzimage_listed image m None None e))

line_listed_all : (text : List ℕ) (m : Memory) (at : ℕ) (r : Refusal) → (line_plan text m at).answer ≡ Err r → Listed (41 ∷ loader.line_numbers) r
unfolding line_plan try_from row_listed contains
line_listed_all text m at r =
    behind_with Err (try_from text line_capacity).tests (loader.plan_of (try_from text line_capacity).text m at)
    (λ (p : Plan Check). p.answer ≡ Err r → Listed (41 ∷ loader.line_numbers) r)
    (λ _ e. listed_right (41 ∷ []) loader.line_numbers r (line_listed (try_from text line_capacity).text m at e))
    (λ s fails e. let same : ◌≡◌ {A = Refusal} s r = cc in subst (Listed (41 ∷ loader.line_numbers)) same (first_listed (41 ∷ loader.line_numbers) (try_from text line_capacity).tests refl fails))

add_said : (said : Answer) (text : List ℕ) (m : Memory) → ListedSaid said → ListedSaid (add_plan said text m).answer
unfolding add_plan
add_said (Err r) text m l = l
add_said (Ok kernel) text m l = line_said kernel (line_plan text m kernel.kernel_end.0).answer (line_listed_all text m kernel.kernel_end.0)

bodies_said : (job : List ℕ) (m : Memory) → ListedSaid (bodies_plan job m).answer
unfolding bodies_plan
bodies_said job m =
    pick_with (λ (p : Plan Answer). ListedSaid p.answer) _ (λ _. add_said (job_image_plan job m).answer _ m (image_said _ _ m)) (λ _. image_said _ _ m)

said_not_bad : {said : Answer} → ListedSaid said → said ≡ Err BadJob → ⊥
unfolding contains
said_not_bad (refused {r} l) e =
    let same : ◌≡◌ {A = Refusal} r BadJob = cc in let bad : Listed job_numbers BadJob = subst (Listed job_numbers) same l in let w : ◌≡◌ {A = ℕ} 0 1 = cc in absurd (omega arith)
said_not_bad (loaded {k}) e = let w : ◌≡◌ {A = ℕ} 0 1 = cc in absurd (omega arith)

-- ---- 70 exactly where the job is not good

pub bad_refused : (job : List ℕ) (m : Memory) → (GoodJob job → ⊥) → (job_plan job m).answer ≡ Err BadJob
unfolding job_plan
bad_refused job m bad =
    behind_with Err (job_tests job) (bodies_plan job m) (λ (p : Plan Answer). p.answer ≡ Err BadJob) (λ hold. absurd (bad (tests_good job hold)))
    (λ r fails. ap Err (only_bad_job job fails))

pub refused_bad : (job : List ℕ) (m : Memory) → (job_plan job m).answer ≡ Err BadJob → GoodJob job → ⊥
unfolding job_plan
refused_bad job m =
    behind_with Err (job_tests job) (bodies_plan job m) (λ (p : Plan Answer). p.answer ≡ Err BadJob → GoodJob job → ⊥)
    (λ hold e good. said_not_bad (bodies_said job m) e)
    (λ r fails e good. let opens = all_open (job_tests job) (good_tests job good) in let shuts = first_shut (job_tests job) r fails in let w : ◌≡◌ {A = ℕ} 0 1 = cc in absurd (omega arith))

pub bad_prints : (job : List ℕ) (size : ℕ) → (GoodJob job → ⊥) → printed job size ≡ number_line refused_word 70
unfolding answer_text
bad_prints job size bad = ap (answer_text (image_format (image_row job).kind)) (bad_refused job (whole_of size) bad)
