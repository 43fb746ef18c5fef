-- `listing::write`: the words from here on, put from n on, make of the lists what all words make of them as they were.
use Rattle.std.proofs.Common.{◌≡◌, ◌-◌, ◌≤◌, length}
use Rattle.words.specs.Words.{words_on, words_of}
use Rattle.words.proofs.WordsLaws.{Stands}
use Rattle.words.proofs.listing.write.Given as goal

abbrev pub invariant-loop-word : goal.invariant-loop-word
invariant-loop-word l =
    (l.n ≤ l.at) × (l.at ≤ length l.line) × (length l.starts ≡ length l.initial.starts) × (length l.ends ≡ length l.initial.ends) × (length l.splits ≡ length l.initial.splits)
    × Stands (words_of l.line) (words_on l.line l.at) l.n l.initial.starts l.initial.ends l.initial.splits l.starts l.ends l.splits

abbrev pub decreases-loop-word : goal.decreases-loop-word
decreases-loop-word l = length l.line - l.at
