-- Each public function permits one outcome.
use mathlib.Core.Path.{refl}
use Rattle.answers.specs.Outcome.{OneOutcome}
use Rattle.answers.proofs.Outcomes.{meet, first}
use Rattle.loader.proofs.plan_texts.Kinds as plan_texts_kinds
use Rattle.loader.proofs.plan_texts.Reads as plan_texts_reads
use Rattle.loader.proofs.load_texts.Kinds as load_texts_kinds
use Rattle.loader.proofs.load_texts.Reads as load_texts_reads
use Rattle.loader.proofs.load_cmdline.Kinds as load_cmdline_kinds
use Rattle.loader.proofs.load_cmdline.Reads as load_cmdline_reads

pub plan_texts_one : OneOutcome 3 plan_texts_kinds.ps plan_texts_kinds.r plan_texts_reads.Post
plan_texts_one κs a z z' ws ws' p q = (meet p q, refl)

pub load_texts_one : OneOutcome 3 load_texts_kinds.ps load_texts_kinds.r load_texts_reads.Post
load_texts_one κs a z z' ws ws' p q = (meet p.answer q.answer, first (meet p.memory q.memory))

pub load_cmdline_one : OneOutcome 2 load_cmdline_kinds.ps load_cmdline_kinds.r load_cmdline_reads.Post
load_cmdline_one κs a z z' ws ws' p q = (meet p.answer q.answer, first (meet p.memory q.memory))
