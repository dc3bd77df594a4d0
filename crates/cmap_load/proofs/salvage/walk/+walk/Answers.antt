use Rattle.std.proofs.Common.{◌≡◌, ◌≤◌, ◌<◌, ℕ, List, length, refl, rules, sym, ap, ◌∙◌, ◌-◌, [], ◌∷◌, inl, inr, false, true, Ok, arith, subst}
use Rattle.std.specs.Prelude.{◌⊎◌, map, slice_get, Some}
use Rattle.std.proofs.lemmas.List.{map-append}
use Rattle.cmap_load.specs.Kept.{IsAnswer, Over, Stored, file_at, files_of, layers_on}
use Rattle.cmap_load.specs.Numbers.{AreWithin, text_at}
use Rattle.cmap_load.specs.SalvageSeen.{WalksOpen, WalksUse, WalksUses, WasRead, listed, names_at, opening_seen}
use Rattle.cmap_load.specs.declared.refusal.Cause.TheVariants.{ChainLength, NoFile, OverBudget}
use Rattle.cmap_load.specs.declared.salvage.walk.Chain.{Chain}
use Rattle.cmap_load.specs.declared.salvage.walk.Walk.{Walk}
use Rattle.cmap_load.proofs.KeptFiles.{layer_read, named_text, none_mapped, there_read}
use Rattle.cmap_load.proofs.Again.{All-back, All-front}
use Rattle.std.proofs.lemmas.List.Elements.{All-append, All-cons, All-get_or, All-head, All-nil}
use Rattle.cmap_load.specs.Graphs.{AreNamed}
use Rattle.cmap_load.specs.declared.known.KnownFile.{KnownFile}
use Rattle.cmap_load.proofs.OneNameMore.{names_back}
use Rattle.cmap_load.proofs.OneUse.{room_left}
use Rattle.cmap_load.proofs.UsedAgain.{known-more}
use Rattle.cmap_load.proofs.Walked.{Knows-more, Walked, listed_at, no_answer, no_room, ok_as, walked_at, walked_end, walked_more, walked_none, walks_closed, walks_each, walks_file, walks_missing, walks_named, walks_over, walks_too_long, walks_unknown, walks_used, was_read}
use Rattle.cmap_load.proofs.salvage.walk.+walk.Goals as goal
use Rattle.cmap_load.proofs.salvage.walk.+walk.Goals.{walk_file-then-wanted, walk_file-else-wanted, walk_unknown-then-not-walk, walk_unknown-else-not-walk}

pub walk_file-uses_of-uses-requires-clause-there : goal.walk_file-uses_of-uses-requires-clause-there
walk_file-uses_of-uses-requires-clause-there g t c = there_read (files_of g.N.Texts.texts c.args.files.now) c.args.at c.in_ok-read.read c.requires.kept c.requires.read c.in_ok-read.ensures.same

pub walk_file-walk_uses-base-requires : goal.walk_file-walk_uses-base-requires
walk_file-walk_uses-base-requires g t c =
    let read = c.in_ok-read.ensures.reads in
    let known = Knows-more (files_of g.N.Texts.texts c.args.files.now) c.args.walk.now c.read_within.new.walk _ c.requires.known read.known read.on read.marked in
    λ κs lives. (search rules, (lives, (c.requires.kept, (c.uses_of-uses.ensures.named, known))))

pub walk_file-returns-clause-walks : goal.walk_file-returns-clause-walks
walk_file-returns-clause-walks g t c =
    let files = files_of g.N.Texts.texts c.args.files.now in
    let asked : (c.args.wanted ≡ true) ⊎ (c.walk_uses-base.new.walk.is_closed ≡ true) → c.if-wanted.put_over ≡ true = λ asked. elim c.if-wanted.branch [
      | walk_file-then-wanted w ↦ w.put_over-is ∙ w.if-wanted.true
      | walk_file-else-wanted w ↦ (elim asked [ inl is ↦ absurd (let no = w.if-wanted.false in cc) | inr is ↦ w.put_over-is ∙ is ])
    ] in
    let read = c.in_ok-read.read in
    ok_as {P = λ (chain : Chain). (under : Chain) × (c.walk_uses-base.result ≡ Ok under) × (chain.height ≡ under.height) × (c.if-wanted.put_over ≡ true → chain.path.items ≡ read ∷ under.path.items)} _ c.put_over.ensures.put (λ chain made.
    let (under, found, height, path) = made in
    let walks = rw found at c.walk_uses-base.ensures.walks in
    walks_file files c.args.below (Stored.at c.args.at) (file_at files read) c.args.wanted c.args.walk.now c.read_within.new.walk c.walk_uses-base.new.walk under chain c.in_ok-read.ensures.reads height
    (λ a. ap (layers_on files) (path (asked a)) ∙ ap (λ l. l ∷ layers_on files under.path.items) (layer_read files read))
    (subst (λ uses. WalksUses files c.args.below uses c.args.wanted c.read_within.new.walk c.walk_uses-base.new.walk under) c.uses_of-uses.ensures.uses walks))

pub walk_uses-returns-in_default-clause-walks : goal.walk_uses-returns-in_default-clause-walks
walk_uses-returns-in_default-clause-walks g t c =
    let files = files_of g.N.Texts.texts c.args.files.now in let texts = files.texts in
    let names = map (text_at texts) c.args.uses.now in let walk = c.args.walk.now in
    let base = c.new-base.result in
    walks_each files c.args.below names c.args.wanted walk walk base
    (subst (λ rest. Walked files c.args.below names rest c.args.wanted walk walk base) (none_mapped (text_at texts) c.args.uses.now c.in_default.ensures.cases) (walked_none files c.args.below names c.args.wanted walk base c.requires.known c.new-base.ensures.0 c.new-base.ensures.1))

pub walk_uses-loop-name-init : goal.walk_uses-loop-name-init
walk_uses-loop-name-init g t c =
    let files = files_of g.N.Texts.texts c.args.files.now in let texts = files.texts in
    let names = map (text_at texts) c.args.uses.now in let walk = c.args.walk.now in
    let base = c.new-base.result in
    let split = ap (map (text_at texts)) c.in-Some.ensures.cases.0 ∙ map-append (text_at texts) c.in-Some.others.now (c.in-Some.last.now ∷ []) in
    subst (λ rest. Walked files c.args.below names rest false walk walk base) split (walked_none files c.args.below names false walk base c.requires.known c.new-base.ensures.0 c.new-base.ensures.1)

pub walk_uses-walk_use-requires : goal.walk_uses-walk_use-requires
walk_uses-walk_use-requires g t c =
    let graph = c.args.files.now.load.table.graph in
    let others = All-front (λ name. name < length graph.found.items) c.in-Some.others.now (c.in-Some.last.now ∷ []) (subst (AreNamed graph) c.in-Some.ensures.cases.0 c.requires.named) in
    let lt = All-get_or (λ name. name < length graph.found.items) c.in-Some.others.now c.loop-name.name-index 0 c.loop-name-test.true others in
    λ κs lives. (search rules, (lives, (c.requires.kept, (lt, c.loop-name.invariant.knows))))

pub walk_uses-walk_use-requires-2 : goal.walk_uses-walk_use-requires-2
walk_uses-walk_use-requires-2 g t c =
    let graph = c.args.files.now.load.table.graph in
    let last = All-back (λ name. name < length graph.found.items) c.in-Some.others.now (c.in-Some.last.now ∷ []) (subst (AreNamed graph) c.in-Some.ensures.cases.0 c.requires.named) in
    λ κs lives. (search rules, (lives, (c.requires.kept, (All-head (λ name. name < length graph.found.items) c.in-Some.last.now [] last, c.loop-name.invariant.knows))))

pub walk_uses-loop-name-preserved : goal.walk_uses-loop-name-preserved
walk_uses-loop-name-preserved g t c =
    let files = files_of g.N.Texts.texts c.args.files.now in
    let so_far = c.loop-name.invariant in
    let (higher, walks) = c.in_ok-base.ensures.walks so_far.fits in
    walked_more files c.args.below _ _ _ false false _ _ _ _ _ (walked_at files c.args.below _ _ c.loop-name.name-index _ false _ _ _ so_far c.loop-name-test.true) higher walks

pub walk_uses-returns-clause-walks : goal.walk_uses-returns-clause-walks
walk_uses-returns-clause-walks g t c =
    let files = files_of g.N.Texts.texts c.args.files.now in
    let so_far = c.loop-name.invariant in let walk = c.loop-name.walk in let base = c.loop-name.base in
    ok_as {P = λ (chain : Chain). base.height ≤ c.args.below → (base.height ≤ chain.height) × WalksUse files c.args.below (text_at files.texts c.in-Some.last.now) (layers_on files base.path.items) c.args.wanted walk c.walk_use-2.new.walk chain} _ c.walk_use-2.ensures.walks (λ (chain : Chain) gives.
    let (higher, walks) = gives so_far.fits in
    walks_each files c.args.below _ c.args.wanted _ _ chain
    (walked_more files c.args.below _ [] _ false c.args.wanted _ _ _ _ chain (walked_end files c.args.below _ _ c.loop-name.name-index _ false _ _ _ so_far c.loop-name-test.false) higher walks))

pub walk_use-returns-then-walk-clause-walks : goal.walk_use-returns-then-walk-clause-walks
walk_use-returns-then-walk-clause-walks g t c = λ fits. (omega arith, walks_closed (files_of g.N.Texts.texts c.args.files.now) (text_at (g.N.Texts.texts c.args.files.now.load.list) c.args.name) c.args.below c.args.wanted c.args.walk.now c.args.others c.requires.known c.if-walk.true fits)

pub walk_use-returns-clause-walks : goal.walk_use-returns-clause-walks
walk_use-returns-clause-walks g t c = λ fits.
    let files = files_of g.N.Texts.texts c.args.files.now in
    let used = c.in_ok-used.used in
    let walks = c.in_ok-used.ensures.walks c.if-walk.false in
    let larger = c.max.ensures in let low = walks.fits in (
      omega (arith, larger),
      walks_used files (text_at files.texts c.args.name) c.args.below (layers_on files c.args.others.path.items) c.args.wanted c.args.walk.now c.open_use.new.walk used _ c.if-walk.false (omega (arith, larger)) (omega (arith, larger, low, fits)) refl walks,
    )

pub open_use-returns-in-Some-clause-walks : goal.open_use-returns-in-Some-clause-walks
open_use-returns-in-Some-clause-walks g t c =
    let (over, unwanted, same) = c.in-Some.ensures in
    let files = files_of g.N.Texts.texts c.args.files.now in let name = text_at files.texts c.args.name in
    walks_over files c.args.name name c.args.below c.in-Some.height c.args.wanted c.args.walk.now c.pass_over.new.self c.new.result (named_text files c.args.name c.requires.kept c.requires.named) c.requires.known over unwanted same c.new.ensures.1

pub walk_unknown-walk_named-requires : goal.walk_unknown-walk_named-requires
walk_unknown-walk_named-requires g t c =
    let files = files_of g.N.Texts.texts c.args.files.now in let known = c.requires.known in
    let old = c.args.walk.now.search.names.items in
    let long = c.requires.kept.texts_are.long in let lt = c.requires.named in
    let one = All-cons (λ number. number < length files.texts) c.args.name [] (omega (arith, lt, long)) (All-nil (λ number. number < length files.texts)) in
    let names = subst (AreWithin files.texts) (sym c.in_ok-push.ensures.items) (All-append (λ number. number < length files.texts) old (c.args.name ∷ []) known.names one) in
    λ κs lives. (search rules, (lives, (c.requires.kept, (lt, record { marked = known.marked; known = known.known; names = names; all = known.all }))))

pub walk_unknown-returns-clause-walks : goal.walk_unknown-returns-clause-walks
walk_unknown-returns-clause-walks g t c = λ is_open.
    let files = files_of g.N.Texts.texts c.args.files.now in
    let name = text_at files.texts c.args.name in let old = c.args.walk.now in
    let pushed : Walk = record old { search = record old.search { names = c.push.new.self } } in
    let after = c.walk_named.new.walk in
    let popped : Walk = record after { search = record after.search { names = c.pop.new.self } } in
    let chain = c.in_ok-used.used in
    let walks = c.in_ok-used.ensures.walks in
    let names = ap (map (text_at files.texts)) c.in_ok-push.ensures.items ∙ map-append (text_at files.texts) old.search.names.items (c.args.name ∷ []) in
    let back = names_back _ _ _ _ c.args.name c.in_ok-push.ensures.items walks.on.names (rw after.search.names.ok.0 at c.pop.ensures.rest) in
    let said = named_text files c.args.name c.requires.kept c.requires.named in
    let faults = listed files.texts after.faults in
    let KnownAt : ℕ → KnownFile → Type 0 = λ number file. (name : List ℕ) → slice_get files.texts number ≡ Some name → WasRead files faults name file in
    let ends : Walk → Type 0 = λ new. WalksOpen files c.args.below name c.args.wanted old new chain in
    let ended : ends c.if-not-walk.walk = elim c.if-not-walk.branch [
      | walk_unknown-then-not-walk w ↦
          (let file = w.new-file.result in
          let read = was_read files name c.args.below c.args.wanted old pushed after chain file is_open names refl w.if-not-walk.true w.new-file.ensures.height w.new-file.ensures.spent walks in
          let known = known-more KnownAt after.search.known w.insert.new.self c.args.name file (λ number known is other there. walks.knows.known number other known there is) (λ other there. let both : Some name ≡ Some other = sym said ∙ there in let same : name ≡ other = cc in subst (λ n. WasRead files faults n file) same read) w.insert.ensures.known in
          let new : Walk = record after { search = record after.search { names = c.pop.new.self; known = w.insert.new.self } } in
          subst ends (sym w.walk-is) (walks_unknown files name c.args.below c.args.wanted old pushed after new chain names refl refl back refl refl (λ number other found there is. known number found is other there) c.requires.known.names (w.insert.ensures.names ∙ walks.knows.all) walks))
      | walk_unknown-else-not-walk w ↦ subst ends (sym w.walk-is) (walks_unknown files name c.args.below c.args.wanted old pushed after popped chain names refl refl back refl refl walks.knows.known c.requires.known.names walks.knows.all walks)
    ] in
    ended is_open

pub walk_named-returns-then-below-eq0-clause-walks : goal.walk_named-returns-then-below-eq0-clause-walks
walk_named-returns-then-below-eq0-clause-walks g t c =
    let files = files_of g.N.Texts.texts c.args.files.now in let name = text_at files.texts c.args.name in
    let below = c.args.below in let old = c.args.walk.now in let new = c.without_file.new.walk in
    let names = names_at files old in
    let same = c.without_file.ensures.same in
    let none = c.in_ok-chain.ensures.none in
    walks_missing files below name ChainLength c.args.wanted old new c.in_ok-chain.chain
    (no_room (IsAnswer files) (Over files below) below c.if-below-eq0.true names name (opening_seen old) (opening_seen new) (ap opening_seen same))
    c.requires.known (listed_at files old new ChainLength c.requires.kept c.requires.known none.2) (ap (λ w. w.search) same) (λ whole. absurd (let cut = ap (λ w. w.is_cut) same in cc)) none.0 (let low = none.1 in omega (arith, low))

pub walk_named-returns-in_ok-chain-in-Nothing-clause-walks : goal.walk_named-returns-in_ok-chain-in-Nothing-clause-walks
walk_named-returns-in_ok-chain-in-Nothing-clause-walks g t c =
    let files = files_of g.N.Texts.texts c.args.files.now in let name = text_at files.texts c.args.name in
    let below = c.args.below in let old = c.args.walk.now in let new = c.without_file-in-Nothing.new.walk in
    let names = names_at files old in
    let same = c.without_file-in-Nothing.ensures.same in
    let (i, found, nothing) = c.in-Nothing.ensures in
    let some = c.if-below-eq0.false in
    let none = c.in_ok-chain-in-Nothing.ensures.none in
    walks_missing files below name NoFile c.args.wanted old new c.in_ok-chain-in-Nothing.chain
    (no_answer (IsAnswer files) (λ m. Over files m) (below - 1) below (room_left below some) names name (opening_seen old) (opening_seen new) (c.args.name, i, named_text files c.args.name c.requires.kept c.requires.named, found, nothing) (ap opening_seen same))
    c.requires.known (listed_at files old new NoFile c.requires.kept c.requires.known none.2) (ap (λ w. w.search) same) (λ whole. (sym (ap (λ w. w.is_cut) same) ∙ whole, none.1, tt)) none.0 (let one = none.1 in omega (arith, one, some))

pub walk_named-returns-in_ok-chain-in-TooLong-clause-walks : goal.walk_named-returns-in_ok-chain-in-TooLong-clause-walks
walk_named-returns-in_ok-chain-in-TooLong-clause-walks g t c =
    let files = files_of g.N.Texts.texts c.args.files.now in
    let (long, over) = c.in-TooLong.ensures in
    let one = c.in_ok-chain-in-TooLong.ensures.one in
    walks_too_long files (c.args.below - 1) c.args.below (room_left c.args.below c.if-below-eq0.false) (text_at files.texts c.args.name) c.in-TooLong.field-0 c.args.wanted c.args.walk.now c.with_empty_layer.new.walk c.in_ok-chain-in-TooLong.chain
    (c.args.name, named_text files c.args.name c.requires.kept c.requires.named, long) over c.requires.known (listed_at files c.args.walk.now c.with_empty_layer.new.walk OverBudget c.requires.kept c.requires.known one.2) c.with_empty_layer.ensures.same one.0 one.1

pub walk_named-returns-in_ok-file-in-Read-clause-walks : goal.walk_named-returns-in_ok-file-in-Read-clause-walks
walk_named-returns-in_ok-file-in-Read-clause-walks g t c =
    let files = files_of g.N.Texts.texts c.args.files.now in
    let (found, read) = c.in-Read.ensures in
    walks_named files (c.args.below - 1) c.args.below (room_left c.args.below c.if-below-eq0.false) (text_at files.texts c.args.name) (Stored.at c.in-Read.at) c.args.wanted c.args.walk.now c.walk_file.new.walk c.in_ok-file-in-Read.file _
    (c.args.name, named_text files c.args.name c.requires.kept c.requires.named, found, read) refl refl c.in_ok-file-in-Read.ensures.walks
