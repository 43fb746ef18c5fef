-- `load_cmdline`: the texts that the line holds are passed on, and a capacity has no part in loading.
use Rattle.loader.proofs.load_cmdline.Goals as goal

pub returns : goal.returns
returns c = rw (c.boot_text.ensures, c.init_text.ensures) at c.load_texts.ensures
