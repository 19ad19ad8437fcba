-- The theorems on a renumbering. Assumes nothing.
use mathlib.Core.List.{List}
use Prim.Native.Nat.{ℕ}
use Rattle.renumber.specs.Renumber.{order_of}
use Rattle.order.specs.Order.{Order}
use Rattle.renumber.proofs.Stop.{stops, returns_is}
use Rattle.order.proofs.Again.{falling_orderable, second-step}
use Rattle.order.proofs.Facts.{order-ordered, one-order, handed}
use Rattle.order.proofs.Follows.{numbers-follow, numbers-order, words_stay}
use Rattle.order.proofs.Leaves.{left_in_order}
use Rattle.order.proofs.Reading.{reading-formed, reading_exactly, reading-same}

pub order : (ws : List ℕ) → Order ws
order ws = record {
  ordered = order-ordered ws;
  only = λ l ok p. one-order ws l (order_of ws) p (order-ordered ws ok);
  handed_back = handed ws;
  stop = stops ws;
  returns_is = returns_is ws;
  follows = numbers-follow ws;
  leaves = left_in_order ws;
  in_order =
      λ form names below.
      let ok = falling_orderable ws form names below in (ok, numbers-order ws ok below, words_stay ws ok below);
  again = λ list ok h. second-step ws ok list h;
  after_reading = λ bs room e. reading-formed ws bs room e;
  reading = λ bs. reading_exactly ws bs;
  same_reading = λ bs e. reading-same ws bs e;
}
