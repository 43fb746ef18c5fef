-- Each public function permits one outcome. `trimmed` and `after` return a part of what they borrow: its bytes are one.
use mathlib.Core.Path.{◌≡◌, refl}
use contract.Lifetimes.{Lfts}
use denote.Triple.Clauses.{Lasts, at_exit}
use borrow.Fn.Kinds.{Dens, res_t, ended_of}
use Rattle.answers.specs.Outcome.{OneOutcome}
use Rattle.answers.proofs.Outcomes.{meet, first}
use Rattle.slugs.proofs.buffers.put.Kinds as put_kinds
use Rattle.slugs.proofs.buffers.put.Reads as put_reads
use Rattle.slugs.proofs.buffers.put_after.Kinds as put_after_kinds
use Rattle.slugs.proofs.buffers.put_after.Reads as put_after_reads
use Rattle.slugs.proofs.buffers.put_pair.Kinds as put_pair_kinds
use Rattle.slugs.proofs.buffers.put_pair.Reads as put_pair_reads
use Rattle.slugs.proofs.bytes.is_blank.Kinds as is_blank_kinds
use Rattle.slugs.proofs.bytes.is_blank.Reads as is_blank_reads
use Rattle.slugs.proofs.bytes.is_printable.Kinds as is_printable_kinds
use Rattle.slugs.proofs.bytes.is_printable.Reads as is_printable_reads
use Rattle.slugs.proofs.bytes.all_printable.Kinds as all_printable_kinds
use Rattle.slugs.proofs.bytes.all_printable.Reads as all_printable_reads
use Rattle.slugs.proofs.bytes.has.Kinds as has_kinds
use Rattle.slugs.proofs.bytes.has.Reads as has_reads
use Rattle.slugs.proofs.keys.check.Kinds as keys_check_kinds
use Rattle.slugs.proofs.keys.check.Reads as keys_check_reads
use Rattle.slugs.proofs.values.check.Kinds as values_check_kinds
use Rattle.slugs.proofs.values.check.Reads as values_check_reads
use Rattle.slugs.proofs.lists.is_list.Kinds as is_list_kinds
use Rattle.slugs.proofs.lists.is_list.Reads as is_list_reads
use Rattle.slugs.proofs.lists.check.Kinds as lists_check_kinds
use Rattle.slugs.proofs.lists.check.Reads as lists_check_reads
use Rattle.slugs.proofs.lists.put_list.Kinds as put_list_kinds
use Rattle.slugs.proofs.lists.put_list.Reads as put_list_reads
use Rattle.slugs.proofs.splitting.split_at.Kinds as split_at_kinds
use Rattle.slugs.proofs.splitting.split_at.Reads as split_at_reads
use Rattle.slugs.proofs.splitting.after.Kinds as after_kinds
use Rattle.slugs.proofs.splitting.after.Reads as after_reads
use Rattle.slugs.proofs.trimming.trimmed.Kinds as trimmed_kinds
use Rattle.slugs.proofs.trimming.trimmed.Reads as trimmed_reads

pub put_one : OneOutcome 2 put_kinds.ps put_kinds.r put_reads.Post
put_one κs a z z' ws ws' p q = (meet p.place q.place, first (meet p.bytes q.bytes))

pub put_after_one : OneOutcome 2 put_after_kinds.ps put_after_kinds.r put_after_reads.Post
put_after_one κs a z z' ws ws' p q = (meet p.place q.place, first (meet p.bytes q.bytes))

pub put_pair_one : OneOutcome 3 put_pair_kinds.ps put_pair_kinds.r put_pair_reads.Post
put_pair_one κs a z z' ws ws' p q = (meet p.place q.place, first (meet p.bytes q.bytes))

pub is_blank_one : OneOutcome 0 is_blank_kinds.ps is_blank_kinds.r is_blank_reads.Post
is_blank_one κs a z z' ws ws' p q = (meet p q, refl)

pub is_printable_one : OneOutcome 0 is_printable_kinds.ps is_printable_kinds.r is_printable_reads.Post
is_printable_one κs a z z' ws ws' p q = (meet p q, refl)

pub all_printable_one : OneOutcome 1 all_printable_kinds.ps all_printable_kinds.r all_printable_reads.Post
all_printable_one κs a z z' ws ws' p q = (meet p q, refl)

pub has_one : OneOutcome 1 has_kinds.ps has_kinds.r has_reads.Post
has_one κs a z z' ws ws' p q = (meet p q, refl)

pub keys_check_one : OneOutcome 1 keys_check_kinds.ps keys_check_kinds.r keys_check_reads.Post
keys_check_one κs a z z' ws ws' p q = (meet p q, refl)

pub values_check_one : OneOutcome 1 values_check_kinds.ps values_check_kinds.r values_check_reads.Post
values_check_one κs a z z' ws ws' p q = (meet p q, refl)

pub is_list_one : OneOutcome 1 is_list_kinds.ps is_list_kinds.r is_list_reads.Post
is_list_one κs a z z' ws ws' p q = (meet p q, refl)

pub lists_check_one : OneOutcome 2 lists_check_kinds.ps lists_check_kinds.r lists_check_reads.Post
lists_check_one κs a z z' ws ws' p q = (meet p q, refl)

pub put_list_one : OneOutcome 4 put_list_kinds.ps put_list_kinds.r put_list_reads.Post
put_list_one κs a z z' ws ws' p q = (meet p.place q.place, first (meet p.bytes q.bytes))

pub split_at_one : OneOutcome 1 split_at_kinds.ps split_at_kinds.r split_at_reads.Post
split_at_one κs a z z' ws ws' p q = (meet p.0 q.0, refl)

pub after_one : (κs : Lfts 1) (a : Dens κs after_kinds.ps) (z z' : (res_t after_kinds.r κs).Denot)
    (ws ws' : Lasts (ended_of 1 after_kinds.ps after_kinds.r) κs a) → after_reads.Post κs a z (at_exit (ended_of 1 after_kinds.ps after_kinds.r) κs a ws)
    → after_reads.Post κs a z' (at_exit (ended_of 1 after_kinds.ps after_kinds.r) κs a ws') → z.now ≡ z'.now
after_one κs a z z' ws ws' p q = meet p q

pub trimmed_one : (κs : Lfts 1) (a : Dens κs trimmed_kinds.ps) (z z' : (res_t trimmed_kinds.r κs).Denot)
    (ws ws' : Lasts (ended_of 1 trimmed_kinds.ps trimmed_kinds.r) κs a) → trimmed_reads.Post κs a z (at_exit (ended_of 1 trimmed_kinds.ps trimmed_kinds.r) κs a ws)
    → trimmed_reads.Post κs a z' (at_exit (ended_of 1 trimmed_kinds.ps trimmed_kinds.r) κs a ws') → z.now ≡ z'.now
trimmed_one κs a z z' ws ws' p q = meet p q
