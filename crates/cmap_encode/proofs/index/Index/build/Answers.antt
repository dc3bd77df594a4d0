use Rattle.cmap_encode.specs.Maps.{maps_seen}
use Rattle.cmap_encode.proofs.GatheredFound.{first_of_text, index, texts_found}
use Rattle.cmap_encode.proofs.index.Index.build.Goals as goal

pub returns : goal.returns
returns c =
    let new = c.add_cids.new.texts in let last = c.add_characters.new.texts in let firsts = c.in_ok-firsts_of.field-0 in let runs = c.in_ok-add_characters.ensures.are in let zip = c.in_ok-firsts_of.ensures in
    texts_found (maps_seen c.args.maps.now) c.in_ok-gathered.gathered new last c.in_ok-glyphs.glyphs c.in_ok-gathered.ensures c.in_ok-glyphs.ensures c.in_ok-add_cids.ensures.adds c.in_ok-add_characters.ensures.adds (index last firsts runs zip) (first_of_text last firsts runs zip)
