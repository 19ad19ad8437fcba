-- The view's method first, then an ABI slot. Assumes nothing.
use Rattle.std.proofs.Common.{◌∙◌}
use Rattle.native_view.proofs.AddLaws.{ref_method, ref_slot, ref_none}
use Rattle.native_view.proofs.source_ref.Goals as goal

pub returns-in-Some : goal.returns-in-Some
returns-in-Some c = search ref_method

pub returns-in_err-signature_slot-in-None : goal.returns-in_err-signature_slot-in-None
returns-in_err-signature_slot-in-None c =
    c.from_residual.ensures
    ∙ ref_none _ _ _ _ _ _ _ c.method.ensures c.in-None.is c.signature_slot.ensures c.in_err-signature_slot-in-None.was

pub returns-in_ok-signature_slot-in-None : goal.returns-in_ok-signature_slot-in-None
returns-in_ok-signature_slot-in-None c =
    ref_slot _ _ _ _ _ _ _ c.method.ensures c.in-None.is c.signature_slot.ensures _ c.in_ok-signature_slot-in-None.was
