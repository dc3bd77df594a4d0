use Rattle.cmap_layers.proofs.LayersSearched.{only_one}
use Rattle.cmap_layers.proofs.layers.Layers.cid.Goals as goal

pub returns : goal.returns
returns c =
    let one = only_one c.as_slice-layers.result.now c.only-item.result c.in-len1.len_at_least c.in-len1.len_below c.only-item.is in
    rw (← c.as_slice-layers.ensures.layers, one, c.if-byte_len-ne2.false) c.cid_in.ensures

pub returns-in_err-cid : goal.returns-in_err-cid
returns-in_err-cid c = rw (← c.as_slice-layers.ensures.layers, c.from_residual.ensures) c.in_err-cid.ensures

pub returns-in_default : goal.returns-in_default
returns-in_default c = rw (← c.as_slice-layers.ensures.layers) c.in_ok-cid.ensures

pub returns-in_err-cid-2 : goal.returns-in_err-cid-2
returns-in_err-cid-2 c =
    let len = c.in-len1 in
    let one = only_one c.as_slice-layers.result.now c.only-item.result len.len_at_least len.len_below c.only-item.is in
    rw (← c.as_slice-layers.ensures.layers, one, c.from_residual-in_err-cid-2.ensures) c.in_err-cid-2.ensures

pub returns-then-byte_len-ne2 : goal.returns-then-byte_len-ne2
returns-then-byte_len-ne2 c =
    let len = c.in-len1 in
    let one = only_one c.as_slice-layers.result.now c.only-item.result len.len_at_least len.len_below c.only-item.is in
    rw (← c.as_slice-layers.ensures.layers, one) c.in_ok-cid-2.ensures
