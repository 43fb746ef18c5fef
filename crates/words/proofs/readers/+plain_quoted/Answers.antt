-- The cycle of calls {plain, quoted}.
use Rattle.std.proofs.Common.{◌∙◌, sym, arith, add-one}
use Rattle.words.proofs.ReadersLaws.{plain_end, plain_quote, plain_found, plain_on, quoted_end, quoted_quote, quoted_on}
use Rattle.words.proofs.readers.+plain_quoted.Goals as goal

pub plain-returns-then-s-i-eq34 : goal.plain-returns-then-s-i-eq34
plain-returns-then-s-i-eq34 t c =
    let args = c.args in
    let at_turn = c.loop-i in
    c.quoted.ensures ∙ rw add-one (sym (plain_quote args.byte args.line.now.now at_turn.i (omega arith) c.if-s-i-eq34.true) ∙ at_turn.invariant.1)

pub plain-returns-then-s-i : goal.plain-returns-then-s-i
plain-returns-then-s-i t c =
    let args = c.args in
    let at_turn = c.loop-i in
    sym (plain_found args.byte args.line.now.now at_turn.i (omega arith) c.if-s-i-eq34.false c.if-s-i.true) ∙ at_turn.invariant.1

pub plain-loop-i-preserved : goal.plain-loop-i-preserved
plain-loop-i-preserved t c =
    let args = c.args in
    let at_turn = c.loop-i in
    (omega arith, rw add-one (sym (plain_on args.byte args.line.now.now at_turn.i (omega arith) c.if-s-i-eq34.false c.if-s-i.false) ∙ at_turn.invariant.1))

pub plain-returns : goal.plain-returns
plain-returns t c =
    let args = c.args in
    let at_end = c.loop-i in
    sym (plain_end args.byte args.line.now.now at_end.i (omega arith)) ∙ at_end.invariant.1

pub quoted-returns-then-s-i-eq34 : goal.quoted-returns-then-s-i-eq34
quoted-returns-then-s-i-eq34 t c =
    let args = c.args in
    let at_turn = c.loop-i in
    c.plain.ensures ∙ rw add-one (sym (quoted_quote args.byte args.line.now.now at_turn.i args.opened (omega arith) c.if-s-i-eq34.true) ∙ at_turn.invariant.1)

pub quoted-loop-i-preserved : goal.quoted-loop-i-preserved
quoted-loop-i-preserved t c =
    let args = c.args in
    let at_turn = c.loop-i in
    (omega arith, rw add-one (sym (quoted_on args.byte args.line.now.now at_turn.i args.opened (omega arith) c.if-s-i-eq34.false) ∙ at_turn.invariant.1))

pub quoted-returns : goal.quoted-returns
quoted-returns t c =
    let args = c.args in
    let at_end = c.loop-i in
    sym (quoted_end args.byte args.line.now.now at_end.i args.opened (omega arith)) ∙ at_end.invariant.1
