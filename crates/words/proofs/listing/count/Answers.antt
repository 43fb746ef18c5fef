-- `listing::count`: the words from the start on are all.
use Rattle.std.proofs.Common.{arith}
use Rattle.words.specs.Words.{words_of}
use Rattle.words.proofs.listing.count.Goals as goal

pub loop-word-init : goal.loop-word-init
unfolding words_of
loop-word-init c = (omega arith, omega arith, omega arith)
