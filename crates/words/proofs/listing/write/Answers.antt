-- `listing::write`: the words from the start on are all.
use Rattle.std.proofs.Common.{arith, refl}
use Rattle.words.specs.Words.{words_of}
use Rattle.words.proofs.WordsLaws.{stands_start}
use Rattle.words.proofs.listing.write.Goals as goal

pub loop-word-init : goal.loop-word-init
unfolding words_of
loop-word-init c = (omega arith, omega arith, refl, refl, refl, stands_start _ _ _ _)
