-- The view goes by the ABI classes of the parent's chain, and the targets add by it. Assumes nothing.
use Rattle.std.proofs.Common.{◌∙◌}
use Rattle.native_view.proofs.ViewLaws.{native_is}
use Rattle.native_view.proofs.AddLaws.{added_are}
use Rattle.native_view.proofs.native_view.Goals as goal

pub returns : goal.returns
returns c =
    let abis = c.as_slice.ensures.is ∙ c.chain_abi-abis.ensures in
    let v = native_is _ _ _ _ _ _ _ c.parent_entries.ensures.is _ c.parent_of.ensures abis c.view_entries.ensures.is in record {
      parent = c.parent_entries.ensures.is;
      view = v;
      len = c.view_entries.ensures.len;
      members = added_are _ _ _ _ _ _ _ _ v c.add_methods.ensures.is;
      count = c.add_methods.ensures.count;
      rest = c.parent_entries.ensures.rest;
    }
