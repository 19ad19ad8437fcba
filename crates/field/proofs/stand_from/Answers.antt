-- A field that does not stand where it should stops the loop; another one moves the place by its words. Assumes nothing.
use Rattle.field.proofs.MovedLaws.{add-room, stand-start, stand-stop, stand-turn, stand-end}
use Rattle.std.proofs.Common.{◌∙◌, arith}
use Rattle.field.proofs.stand_from.Goals as goal

pub loop-f-init : goal.loop-f-init
loop-f-init c = record { small = omega arith; rest = search stand-start }

pub returns-then-not-stands_at : goal.returns-then-not-stands_at
returns-then-not-stands_at c =
    stand-stop _ _ _ _ _ c.loop-f-test.true c.stands_at.ensures c.if-not-stands_at.true ∙ c.loop-f.invariant.rest

pub loop-f-preserved : goal.loop-f-preserved
loop-f-preserved c =
    let grows = add-room c.args.ws.now c.args.text.now c.loop-f.at c.loop-f.f in
    record {
      small = omega (arith, grows, c.add_words-at.ensures);
      rest = stand-turn _ _ _ _ _ c.loop-f-test.true c.stands_at.ensures c.if-not-stands_at.false (omega (arith, grows, c.add_words-at.ensures))
          ∙ c.loop-f.invariant.rest;
    }

pub returns : goal.returns
returns c = stand-end _ _ _ _ _ c.loop-f-test.false ∙ c.loop-f.invariant.rest
