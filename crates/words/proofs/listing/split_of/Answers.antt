-- `listing::split_of`: the part of the line up to the word's end is its front.
use Rattle.words.specs.Words.{split_of}
use Rattle.words.proofs.listing.split_of.Goals as goal

pub returns : goal.returns
unfolding split_of
returns c = c.stop_at.ensures
