-- What a job does: the image is loaded, then the line is put at the kernel's end.
use Rattle.guest.specs.Answers.{Answer}
use Rattle.std.specs.Prelude.{ℕ, ◌≡◌, List, ◌++◌, eqb, length, replicate, Ok, Err, None, is_ok}
use Rattle.answers.specs.Pick.{pick}
use Rattle.answers.specs.Tests.{asked_all, Check, pass}
use Rattle.guest.specs.declared.KernelLoaderResult.{KernelLoaderResult}
use Rattle.guest.specs.declared.Memory.{Memory}
use Rattle.guest.specs.Loading.{Plan, Loads, behind_tests, refused_plan}
use Rattle.guest.specs.Room.{whole_of}
use Rattle.guest.specs.Stream.{pour}
use Rattle.cmdline.specs.Making.{try_from}
use Rattle.loader.specs.Lines as loader
use Rattle.loads.specs.Formats.{plan_of}
use Rattle.loads.specs.declared.Format.{Format}
use Rattle.loads.specs.declared.Format.TheVariants.{Elf, BzImage}
use Rattle.desk.specs.Table.{job_tests, image_row, line_row, has_line, body_of}

-- the bytes of guest memory that a job has
abbrev pub guest_size : ℕ
guest_size = 16384

-- ---- the image

-- kind 1 is an ELF image
unfoldable pub image_format : ℕ → Format
image_format kind = pick (eqb kind 1) Elf BzImage

-- it is loaded without an offset and without a start of high memory
abbrev pub image_plan : ℕ → List ℕ → Memory → Plan Answer
image_plan kind image m = plan_of image m (record { format = image_format kind; kernel_offset = None; highmem_start = None })

-- ---- the line

-- the capacity of the line
abbrev pub line_capacity : ℕ
line_capacity = 4096

-- the line is read from its text, and put at an address
unfoldable pub line_plan : List ℕ → Memory → ℕ → Plan Check
line_plan text m at = behind_tests Err (try_from text line_capacity).tests (loader.plan_of (try_from text line_capacity).text m at)

-- the answer, if the line's is known
unfoldable pub with_line : KernelLoaderResult → Check → Answer
with_line kernel (Ok _) = Ok kernel
with_line kernel (Err refusal) = Err refusal

-- after an image that was refused there is no line; else it goes to the kernel's end
unfoldable pub add_plan : Answer → List ℕ → Memory → Plan Answer
add_plan (Err refusal) text m = refused_plan Err refusal
add_plan (Ok kernel) text m =
    let plan = line_plan text m kernel.kernel_end.0 in record { answer = with_line kernel plan.answer; stream = plan.stream }

-- ---- the job

-- one plan and then another, which has the last word
abbrev pub in_turn : Plan Answer → Plan Answer → Plan Answer
in_turn first second = record { answer = second.answer; stream = first.stream ++ second.stream }

abbrev pub job_image_plan : List ℕ → Memory → Plan Answer
job_image_plan job m = image_plan (image_row job).kind (body_of job (image_row job)) m

-- the image, and then the line if there is one
unfoldable pub bodies_plan : List ℕ → Memory → Plan Answer
bodies_plan job m =
    let image = job_image_plan job m in pick (has_line job) (in_turn image (add_plan image.answer (body_of job (line_row job)) m)) image

-- the tests of the job come first
unfoldable pub job_plan : List ℕ → Memory → Plan Answer
job_plan job m = behind_tests Err (job_tests job) (bodies_plan job m)

-- the bodies of a job are loaded into guest memory that is all of a slice
abbrev pub BodiesLoad : List ℕ → List ℕ → Answer → List ℕ → Type 0
BodiesLoad job before r after = Loads (bodies_plan job (whole_of (length before))) before r after

-- guest memory after a job: cleared and loaded, or as it was where the job is not good
abbrev pub memory_after : List ℕ → List ℕ → List ℕ
memory_after job before =
    pick (is_ok (asked_all pass (job_tests job))) (pour (job_plan job (whole_of (length before))).stream (replicate (length before) 0)) before

-- a job is done over a slice that held `before`: it answers r and leaves `after`
pub record Works (job before : List ℕ) (r : Answer) (after : List ℕ) : Type 0 where
  pub said : r ≡ (job_plan job (whole_of (length before))).answer
  pub memory : after ≡ memory_after job before
