-- `formats::kind_of`: each test is the definition's own, in its order.
use mathlib.Core.Path.{◌∙◌, sym}
use borrow.Author.Tests.{eq-eqb, ne_eqb}
use Rattle.answers.specs.Pick.{pick}
use Rattle.fields.specs.Numbers.{le}
use Rattle.bzimage.specs.SetupHeader.{header_magic}
use Rattle.bzimage.proofs.KernelLaws.{field_read}
use Rattle.bzimage.proofs.SetupHeaderLaws.{at_header}
use Rattle.loads.specs.Kinds.{kind_of}
use Rattle.loads.proofs.formats.kind_of.Goals as goal

pub returns-then-is_tag : goal.returns-then-is_tag
unfolding kind_of pick
returns-then-is_tag c = rw (sym c.is_tag.ensures ∙ c.if-is_tag.true)

pub returns-then-read_u32-eq1400005704 : goal.returns-then-read_u32-eq1400005704
unfolding kind_of pick
returns-then-read_u32-eq1400005704 c =
    let image = c.args.image.now in
    let magic = field_read header_magic image (c.place.ensures ∙ at_header) c.read_u32.ensures in
    rw (sym c.is_tag.ensures ∙ c.if-is_tag.false, eq-eqb (le 4 image header_magic) 0x53726448 (sym magic ∙ c.if-read_u32-eq1400005704.true))

pub returns-then-read_u32-eq1682788929 : goal.returns-then-read_u32-eq1682788929
unfolding kind_of pick
returns-then-read_u32-eq1682788929 c =
    let image = c.args.image.now in
    let magic = field_read header_magic image (c.place.ensures ∙ at_header) c.read_u32.ensures in
    rw (
      sym c.is_tag.ensures ∙ c.if-is_tag.false,
      ne_eqb (le 4 image header_magic) 0x53726448 (λ e. c.if-read_u32-eq1400005704.false (magic ∙ e)),
      eq-eqb (le 4 image 56) 0x644D5241 (sym c.read_u32-2.ensures.value ∙ c.if-read_u32-eq1682788929.true),
    )

pub returns : goal.returns
unfolding kind_of pick
returns c =
    let image = c.args.image.now in
    let magic = field_read header_magic image (c.place.ensures ∙ at_header) c.read_u32.ensures in
    rw (
      sym c.is_tag.ensures ∙ c.if-is_tag.false,
      ne_eqb (le 4 image header_magic) 0x53726448 (λ e. c.if-read_u32-eq1400005704.false (magic ∙ e)),
      ne_eqb (le 4 image 56) 0x644D5241 (λ e. c.if-read_u32-eq1682788929.false (c.read_u32-2.ensures.value ∙ e)),
    )
