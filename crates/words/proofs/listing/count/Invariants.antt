-- `listing::count`: the words counted and those from here on are all of them.
use Rattle.std.proofs.Common.{◌≡◌, ◌+◌, ◌-◌, ◌≤◌, length}
use Rattle.words.specs.Words.{words_on, words_of}
use Rattle.words.proofs.listing.count.Given as goal

abbrev pub invariant-loop-word : goal.invariant-loop-word
invariant-loop-word l = (l.n ≤ l.at) × (l.at ≤ length l.line) × (l.n + length (words_on l.line l.at) ≡ length (words_of l.line))

abbrev pub decreases-loop-word : goal.decreases-loop-word
decreases-loop-word l = length l.line - l.at
