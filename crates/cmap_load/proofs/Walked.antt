-- A walk through files over files that are read past their faults: what is found, what is listed, and what is known.
use Rattle.std.proofs.Common.{◌≡◌, ℕ, suc, ◌+◌, ◌-◌, ◌<◌, ◌≤◌, refl, sym, ap, ◌∙◌, subst, Bool, false, true, List, [], ◌∷◌, ◌++◌, drop, get_or, length, inl, inr, append-nil, append_assoc, arith}
use Rattle.std.specs.Prelude.{◌⊎◌, IfOk, IfSome, IsOk, MatchResult, OnOk, Option, Some, None, Result, Ok, Err, map, slice_get}
use Rattle.std.specs.List.{All, last_or}
use Rattle.std.proofs.Math.ListN.{length-append}
use Rattle.std.proofs.Math.ListN.{length-map}
use Rattle.std.proofs.lemmas.List.{drop_more, drop_all, get_or-map}
use Rattle.std.proofs.lemmas.List.Elements.{All-append, All-cons, All-nil, All-weaker}
use Rattle.cmap_values.specs.Files.{File}
use Rattle.cmap_values.specs.ListsAppended.{no_file}
use Rattle.cmap_load.specs.Budgets.{IsOver}
use Rattle.cmap_load.specs.Numbers.{AreWithin, text_at}
use Rattle.cmap_layers.specs.Layers.{Layer, layer_of}
use Rattle.cmap_load.specs.KnownFiles.{IsSpent, SpendsAgain, file_known, names_in}
use Rattle.cmap_load.specs.Kept.{AreKept, Files, IsAnswer, IsSalvaged, Over, Stored, layers_on}
use Rattle.cmap_load.specs.Salvage.{Found, NamedFault, Opening, Reading, SalvagesEach, SalvagesNamed, SalvagesUse, list_each, no_layers}
use Rattle.cmap_load.specs.SalvageSeen.{AddsFaults, AreMarked, GoesOn, HasRoom, IsRead, Knows, Lists, ReadingAddsNothing, ReadsOn, Walks, WalksFile, WalksNamed, WalksOpen, WalksUse, WalksUses, WasRead, WereRead, fault_named, listed, names_at, opening_seen}
use Rattle.cmap_load.specs.Searches.{PassesOver}
use Rattle.cmap_load.specs.declared.known.KnownFile.{KnownFile}
use Rattle.cmap_load.specs.declared.refusal.Cause.{Cause}
use Rattle.cmap_load.specs.declared.refusal.Cause.TheVariants.{ChainLength, NoFile, OverBudget}
use Rattle.cmap_load.specs.declared.salvage.walk.Chain.{Chain}
use Rattle.cmap_load.specs.declared.salvage.walk.Walk.{Walk}
use Rattle.cmap_load.proofs.Again.{All-alike, FoundAgain, IsAlike, file_again, named_again}
use Rattle.cmap_load.proofs.Listed.{IsNamed, ReadingAddsNothing-more, all_listed, list_each-again, list_each-append}
use Rattle.cmap_load.proofs.UsedAgain.{leaves_again}

-- what holds of an answer, by what else holds of it
pub ok_as : {A E : Type 0} {P Q : A → Type 0} (result : Result A E) → IfOk result P → ((x : A) → P x → Q x) → IfOk result Q
ok_as (Ok x) holds gives = gives x holds
ok_as (Err error) holds gives = tt

pub ok_of : {A E : Type 0} {P Q : A → Type 0} (F : E → Type 0) (result : Result A E) → MatchResult result P F → ((x : A) → P x → Q x) → IfOk result Q
ok_of F (Ok x) holds gives = gives x holds
ok_of F (Err error) holds gives = tt

pub on_ok : {A E P : Type 0} (result : Result A E) → OnOk result P → IsOk result → P
on_ok (Ok x) holds is = holds
on_ok (Err error) holds is = absurd (cc)

-- ---- what is listed
module _ (files : Files) where
  pub GoesOn-none : (walk : Walk) → GoesOn files walk walk []
  GoesOn-none walk = record { names = refl; all = refl }

  pub GoesOn-more : {a b c : Walk} {first second : List Reading} → GoesOn files a b first → GoesOn files b c second → GoesOn files a c (first ++ second)
  GoesOn-more {a} {b} {c} {first} {second} on later = record {
    names = later.names ∙ on.names;
    all = later.all ∙ ap (λ f. list_each f second) on.all ∙ sym (list_each-append (listed files.texts a.faults) first second);
  }

  names_on : (old new : Walk) → new.search.names.items ≡ old.search.names.items → names_at files new ≡ names_at files old
  names_on old new same = ap (map (text_at files.texts)) same

IsRead-more : (few many : ℕ) → few ≤ many → (readings : List Reading) → All (IsRead few) readings → All (IsRead many) readings
IsRead-more few many le readings all = All-weaker (IsRead few) (IsRead many) (λ reading is. record { short = omega (arith, le, is.short); room = is.room }) readings all

one_read : (most : ℕ) (names : List (List ℕ)) (causes : List Cause) → length names ≤ most → HasRoom causes → All (IsRead most) (record { names = names; causes = causes } ∷ [])
one_read most names causes short room = All-cons (IsRead most) (record { names = names; causes = causes }) [] (record { short = short; room = room }) (All-nil (IsRead most))

-- ---- what is known
module _ (files : Files) where
  -- it stays so where more is listed
  pub Knows-more : (old new : Walk) (readings : List Reading) → Knows files old → new.search.known ≡ old.search.known → GoesOn files old new readings → AreMarked files.texts new.faults → Knows files new
  Knows-more old new readings knows same on marked = record {
    marked = marked;
    known = λ number name file said is.
        let was = knows.known number name file said (ap (λ k. file_known k number) (sym same) ∙ is) in
        record {
          room = was.room;
          leading = was.leading;
          before = was.before;
          found = was.found;
          run = was.run;
          read = was.read;
          listed = subst (λ f. All (ReadingAddsNothing f) was.found.readings) (sym on.all)
              (All-weaker (ReadingAddsNothing (listed files.texts old.faults)) (ReadingAddsNothing (list_each (listed files.texts old.faults) readings)) (ReadingAddsNothing-more (listed files.texts old.faults) readings) was.found.readings was.listed);
          spent = was.spent;
        };
    names = subst (AreWithin files.texts) (sym on.names) knows.names;
    all = ap names_in same ∙ knows.all;
  }

  -- the faults that are added are listed
  pub listed_on : (old new : Walk) (causes : List Cause) → AreKept files → Knows files old → AddsFaults old.faults new.faults old.search.names.items causes → Lists files.texts old.faults new.faults (names_at files old) causes
  listed_on old new causes kept knows adds = adds.over files.texts kept.texts_are.distinct knows.names knows.marked

  pub listed_at : (old new : Walk) (cause : Cause) → AreKept files → Knows files old → AddsFaults old.faults new.faults old.search.names.items (cause ∷ []) → Lists files.texts old.faults new.faults (names_at files old) (cause ∷ [])
  listed_at old new cause kept knows adds = listed_on old new (cause ∷ []) kept knows adds

-- what leads to a file of this name ends with it
last_after : (start : Option (List ℕ)) (leading : List (List ℕ)) (name : List ℕ) (below : List (List ℕ)) → last_or start (leading ++ name ∷ below) ≡ last_or (Some name) below
last_after start [] name below = refl
last_after start (first ∷ leading) name below = last_after (Some first) leading name below

last_some : (name : List ℕ) (below : List (List ℕ)) → (last : List ℕ) × (last_or (Some name) below ≡ Some last)
last_some name [] = (name, refl)
last_some name (next ∷ below) = last_some next below

last_under : (leading : List (List ℕ)) (name : List ℕ) (below names : List (List ℕ)) → names ≡ (leading ++ name ∷ []) ++ below → last_or None names ≡ last_or (Some name) below
last_under leading name below names is = ap (last_or None) (is ∙ append_assoc leading (name ∷ []) below) ∙ last_after None leading name below

-- ---- a use that is passed over
module _ (files : Files) (name : List ℕ) (file : KnownFile) (faults : List NamedFault) (was : WasRead files faults name file) (others : List (List ℕ)) (below : ℕ) (fits : file.height ≤ below) where
  abbrev FoundHere : Option ℕ → Option ℕ → Type 0
  FoundHere budget left = FoundAgain (SalvagesNamed (IsAnswer files) (Over files below) below (others ++ name ∷ []) name) (was.leading ++ name ∷ []) (others ++ name ∷ []) was.found budget left

  found_here : (budget left : Option ℕ) → SpendsAgain file.spent budget left → FoundHere budget left
  found_here budget left spends =
      let longest = length was.leading + file.height in
      let names = was.leading ++ name ∷ [] in
      let longer : length names ≡ length was.leading + 1 = length-append was.leading (name ∷ []) in
      let room : longest < length names + below = omega (arith, longer, fits) in
      let repeats = named_again files longest names (others ++ name ∷ []) name (record { left = was.before; closed = false }) was.found refl was.read was.room below room
      (λ stored salvaged. file_again files longest was.room below names (others ++ name ∷ []) stored (record { left = was.before; closed = false }) was.found room refl salvaged was.read) was.run in
      repeats.again budget left (leaves_again was.before was.found.after.left repeats.count repeats.leaves file.spent was.spent budget left spends)

  alike_named : (reading other : Reading) → IsAlike (was.leading ++ name ∷ []) (others ++ name ∷ []) reading other → ReadingAddsNothing faults reading → IsNamed other × ReadingAddsNothing faults other
  alike_named reading other alike nothing =
      let first = last_under was.leading name alike.below reading.names alike.was in
      let second = last_under others name alike.below other.names alike.now in
      let (last, is) = last_some name alike.below in
      ((last, second ∙ is), rw (alike.causes, second) (rw first at nothing))

  alike_read : (reading other : Reading) → IsAlike (was.leading ++ name ∷ []) (others ++ name ∷ []) reading other → IsRead (length was.leading + file.height) reading → IsRead (length others + file.height) other
  alike_read reading other alike is =
      let first : length reading.names ≡ length was.leading + 1 + length alike.below = ap length alike.was ∙ length-append (was.leading ++ name ∷ []) alike.below ∙ ap (λ n. n + length alike.below) (length-append was.leading (name ∷ [])) in
      let second : length other.names ≡ length others + 1 + length alike.below = ap length alike.now ∙ length-append (others ++ name ∷ []) alike.below ∙ ap (λ n. n + length alike.below) (length-append others (name ∷ [])) in
      record { short = omega (arith, first, second, is.short); room = subst HasRoom (sym alike.causes) is.room }

  module _ (budget left : Option ℕ) (again : FoundHere budget left) where
    all_named : All IsNamed again.readings
    all_named = All-alike (IsAlike (was.leading ++ name ∷ []) (others ++ name ∷ [])) (ReadingAddsNothing faults) IsNamed (λ reading other alike nothing. (alike_named reading other alike nothing).0) was.found.readings again.readings again.alike was.listed

    add_nothing : All (ReadingAddsNothing faults) again.readings
    add_nothing = All-alike (IsAlike (was.leading ++ name ∷ []) (others ++ name ∷ [])) (ReadingAddsNothing faults) (ReadingAddsNothing faults) (λ reading other alike nothing. (alike_named reading other alike nothing).1) was.found.readings again.readings again.alike was.listed

    nothing_more : list_each faults again.readings ≡ faults
    nothing_more = list_each-again faults again.readings add_nothing all_named

    all_read : All (IsRead (length others + file.height)) again.readings
    all_read = All-alike (IsAlike (was.leading ++ name ∷ []) (others ++ name ∷ [])) (IsRead (length was.leading + file.height)) (IsRead (length others + file.height)) alike_read was.found.readings again.readings again.alike was.read

module _ (files : Files) where
  pub walks_over : (number : ℕ) (name : List ℕ) (below height : ℕ) (wanted : Bool) (old new : Walk) (chain : Chain) → slice_get files.texts number ≡ Some name → Knows files old → PassesOver number below old.search new.search height → wanted ≡ false → new ≡ record old { search = new.search } → chain.height ≡ height → WalksOpen files below name wanted old new chain
  walks_over number name below height wanted old new chain said knows over unwanted same is_height is_open =
      let others = names_at files old in
      let faults = listed files.texts old.faults in
      let file = over.file in
      let fits : file.height ≤ below = subst (λ h. h ≤ below) (sym over.same) over.fits in
      let was = knows.known number name file said over.is_known in
      let again = found_here files name file faults was others below fits old.search.left new.search.left over.spends in
      let same_faults : new.faults ≡ old.faults = ap (λ w. w.faults) same in
      let same_cut : new.is_cut ≡ old.is_cut = ap (λ w. w.is_cut) same in
      let same_closed : new.is_closed ≡ false = ap (λ w. w.is_closed) same ∙ is_open in
      let nothing = nothing_more files name file faults was others below fits old.search.left new.search.left again in
      let read = all_read files name file faults was others below fits old.search.left new.search.left again in
      let on : GoesOn files old new again.readings = record { names = ap (λ names. names.items) over.names; all = ap (listed files.texts) same_faults ∙ sym nothing } in
      let as_height : file.height ≡ chain.height = over.same ∙ sym is_height in
      record {
        layers = was.found.layers;
        readings = again.readings;
        finds = subst (λ c. SalvagesNamed (IsAnswer files) (Over files below) below (others ++ name ∷ []) name (record { left = old.search.left; closed = c }) (record { layers = was.found.layers; readings = again.readings; after = opening_seen new })) (sym is_open)
            (subst (λ c. SalvagesNamed (IsAnswer files) (Over files below) below (others ++ name ∷ []) name (record { left = old.search.left; closed = false }) (record { layers = was.found.layers; readings = again.readings; after = record { left = new.search.left; closed = c } })) (sym same_closed) again.finds);
        on = on;
        knows = Knows-more files old new again.readings knows over.known on (subst (AreMarked files.texts) (sym same_faults) knows.marked);
        read = λ whole. (sym same_cut ∙ whole, subst (λ h. All (IsRead (length others + h)) again.readings) as_height read);
        fits = subst (λ h. h ≤ below) as_height fits;
        given = λ asked. elim asked [
          | inl is ↦ absurd (cc)
          | inr is ↦ absurd (cc)
        ];
      }

  -- ---- a use
  -- the file of a name is known after it
  pub walks_unknown : (name : List ℕ) (below : ℕ) (wanted : Bool) (old pushed after new : Walk) (chain : Chain)
      → names_at files pushed ≡ names_at files old ++ name ∷ [] → pushed ≡ record old { search = pushed.search } → pushed.search.left ≡ old.search.left
      → new.search.names.items ≡ old.search.names.items → new ≡ record after { search = new.search } → new.search.left ≡ after.search.left → WereRead files (listed files.texts after.faults) new.search.known → AreWithin files.texts old.search.names.items → names_in new.search.known ≡ length files.texts
      → WalksNamed files below name wanted pushed after chain → WalksOpen files below name wanted old new chain
  walks_unknown name below wanted old pushed after new chain names before before_left back end end_left known within all walks is_open =
      let others = names_at files old in
      let longer : length (names_at files pushed) ≡ length others + 1 = ap length names ∙ length-append others (name ∷ []) in
      let above : length (names_at files pushed) - 1 ≡ length others = omega (arith, longer) in
      let opening : opening_seen pushed ≡ opening_seen old = ap (λ w. record { left = pushed.search.left; closed = w.is_closed }) before ∙ ap (λ l. record { left = l; closed = old.is_closed }) before_left in
      let ends : opening_seen new ≡ opening_seen after = ap (λ w. record { left = new.search.left; closed = w.is_closed }) end ∙ ap (λ l. record { left = l; closed = after.is_closed }) end_left in
      let faults : new.faults ≡ after.faults = ap (λ w. w.faults) end in
      let closed : new.is_closed ≡ after.is_closed = ap (λ w. w.is_closed) end in
      let cut : new.is_cut ≡ after.is_cut = ap (λ w. w.is_cut) end in
      record {
        layers = walks.layers;
        readings = walks.readings;
        finds =
            subst (λ e. SalvagesNamed (IsAnswer files) (Over files below) below (others ++ name ∷ []) name (opening_seen old) (record { layers = walks.layers; readings = walks.readings; after = e })) (sym ends)
            (subst (λ o. SalvagesNamed (IsAnswer files) (Over files below) below (others ++ name ∷ []) name o (record { layers = walks.layers; readings = walks.readings; after = opening_seen after })) opening
            (subst (λ n. SalvagesNamed (IsAnswer files) (Over files below) below n name (opening_seen pushed) (record { layers = walks.layers; readings = walks.readings; after = opening_seen after })) names walks.finds));
        on = record { names = back; all = ap (listed files.texts) faults ∙ walks.on.all ∙ ap (λ w. list_each (listed files.texts w.faults) walks.readings) before };
        knows = record { marked = subst (AreMarked files.texts) (sym faults) walks.knows.marked; known = subst (λ f. WereRead files (listed files.texts f) new.search.known) (sym faults) known; names = subst (AreWithin files.texts) (sym back) within; all = all };
        read = λ whole.
            let (first, all) = walks.read (sym cut ∙ whole) in
            (sym (ap (λ w. w.is_cut) before) ∙ first, subst (λ n. All (IsRead (n + chain.height)) walks.readings) above all);
        fits = walks.fits;
        given = λ asked. walks.given (elim asked [ inl is ↦ inl is | inr is ↦ inr (sym closed ∙ is) ]);
      }

  -- what was found of it, whenever nothing was cut
  pub was_read : (name : List ℕ) (below : ℕ) (wanted : Bool) (old pushed after : Walk) (chain : Chain) (file : KnownFile) → old.is_closed ≡ false
      → names_at files pushed ≡ names_at files old ++ name ∷ [] → pushed ≡ record old { search = pushed.search } → after.is_cut ≡ false → file.height ≡ chain.height → IfSome file.spent (IsSpent pushed.search.left after.search.left)
      → WalksNamed files below name wanted pushed after chain
      → WasRead files (listed files.texts after.faults) name file
  was_read name below wanted old pushed after chain file is_open names before whole same spent walks =
      let others = names_at files old in
      let longer : length (names_at files pushed) ≡ length others + 1 = ap length names ∙ length-append others (name ∷ []) in
      let above : length (names_at files pushed) - 1 ≡ length others = omega (arith, longer) in
      let closed : pushed.is_closed ≡ false = ap (λ w. w.is_closed) before ∙ is_open in
      let found : Found = record { layers = walks.layers; readings = walks.readings; after = opening_seen after } in
      record {
        room = below;
        leading = others;
        before = pushed.search.left;
        found = found;
        run = subst (λ n. SalvagesNamed (IsAnswer files) (Over files below) below n name (record { left = pushed.search.left; closed = false }) found) names
            (subst (λ c. SalvagesNamed (IsAnswer files) (Over files below) below (names_at files pushed) name (record { left = pushed.search.left; closed = c }) found) closed walks.finds);
        read = subst (λ h. All (IsRead (length others + h)) walks.readings) (sym same) (subst (λ n. All (IsRead (n + chain.height)) walks.readings) above (walks.read whole).1);
        listed = subst (λ f. All (ReadingAddsNothing f) walks.readings) (sym walks.on.all) (all_listed (listed files.texts pushed.faults) walks.readings);
        spent = spent;
      }

  -- after other uses
  pub walks_used : (name : List ℕ) (below : ℕ) (base : List Layer) (wanted : Bool) (old new : Walk) (used chain : Chain) → old.is_closed ≡ false → used.height ≤ chain.height → chain.height ≤ below → chain.path ≡ used.path
      → Walks files (SalvagesNamed (IsAnswer files) (Over files below) below (names_at files old ++ name ∷ []) name) (length (names_at files old)) below wanted old new used → WalksUse files below name base wanted old new chain
  walks_used name below base wanted old new used chain is_open higher fits same walks =
      let above = length (names_at files old) in
      record {
        layers = walks.layers;
        readings = walks.readings;
        finds = inr (is_open, walks.finds);
        on = walks.on;
        knows = walks.knows;
        read = λ whole. let (first, all) = walks.read whole in (first, IsRead-more (above + used.height) (above + chain.height) (omega (arith, higher)) walks.readings all);
        fits = fits;
        given = λ asked. ap (λ l. layers_on files l.items) same ∙ walks.given asked;
      }

  -- once a chain was too long
  pub walks_closed : (name : List ℕ) (below : ℕ) (wanted : Bool) (walk : Walk) (others : Chain) → Knows files walk → walk.is_closed ≡ true → others.height ≤ below → WalksUse files below name (layers_on files others.path.items) wanted walk walk others
  walks_closed name below wanted walk others knows closed fits = record {
    layers = layers_on files others.path.items;
    readings = [];
    finds = inl (closed, refl);
    on = GoesOn-none files walk;
    knows = knows;
    read = λ whole. (whole, All-nil (IsRead (length (names_at files walk) + others.height)));
    fits = fits;
    given = λ asked. refl;
  }

  -- ---- uses, one after another
  module _ (below : ℕ) where
    abbrev pub use_under : List (List ℕ) → List ℕ → List Layer → Opening → Found → Type 0
    use_under leading = SalvagesUse (IsAnswer files) (Over files below) below leading

    -- between two uses: who finds the rest from here on has found all
    pub record Walked (names rest : List (List ℕ)) (wanted : Bool) (start here : Walk) (chain : Chain) : Type 0 where
      pub layers : List Layer
      pub readings : List Reading
      pub finds : (last : Found) → SalvagesEach (use_under (names_at files start)) rest layers (opening_seen here) last
          → SalvagesEach (use_under (names_at files start)) names [] (opening_seen start) (record { layers = last.layers; readings = readings ++ last.readings; after = last.after })
      pub on : GoesOn files start here readings
      pub knows : Knows files here
      pub read : here.is_cut ≡ false → (start.is_cut ≡ false) × All (IsRead (length (names_at files start) + chain.height)) readings
      pub fits : chain.height ≤ below
      pub given : (wanted ≡ true) ⊎ (here.is_closed ≡ true) → layers_on files chain.path.items ≡ layers

    pub walked_none : (names : List (List ℕ)) (wanted : Bool) (start : Walk) (chain : Chain) → Knows files start → chain.path.items ≡ [] → chain.height ≡ 0 → Walked names names wanted start start chain
    walked_none names wanted start chain knows none low = record {
      layers = [];
      readings = [];
      finds = λ last h. h;
      on = GoesOn-none files start;
      knows = knows;
      read = λ whole. (whole, All-nil (IsRead (length (names_at files start) + chain.height)));
      fits = omega (arith, low);
      given = λ asked. ap (layers_on files) none;
    }

    -- what is found of a use doesn't depend on the layers before it, unless a chain was too long
    from_layers : (leading : List (List ℕ)) (name : List ℕ) (base layers : List Layer) (here : Walk) (found : Found) → (here.is_closed ≡ true → base ≡ layers) → use_under leading name base (opening_seen here) found → use_under leading name layers (opening_seen here) found
    from_layers leading name base layers here found same used = elim used [
      | inl (closed, is) ↦ inl (closed, subst (λ b. found ≡ record { layers = b; readings = []; after = opening_seen here }) (same closed) is)
      | inr named ↦ inr named
    ]

    pub walked_more : (names rest : List (List ℕ)) (name : List ℕ) (before wanted : Bool) (start here later : Walk) (base chain : Chain) → Walked names (name ∷ rest) before start here base → base.height ≤ chain.height
        → WalksUse files below name (layers_on files base.path.items) wanted here later chain → Walked names rest wanted start later chain
    walked_more names rest name before wanted start here later base chain walked higher walks =
        let leading = names_at files start in
        let first : Found = record { layers = walks.layers; readings = walks.readings; after = opening_seen later } in
        let found = subst (λ n. use_under n name (layers_on files base.path.items) (opening_seen here) first) (names_on files start here walked.on.names) walks.finds in
        let from = from_layers leading name (layers_on files base.path.items) walked.layers here first (λ closed. walked.given (inr closed)) found in
        record {
          layers = walks.layers;
          readings = walked.readings ++ walks.readings;
          finds = λ last h.
              let whole : Found = record { layers = last.layers; readings = walks.readings ++ last.readings; after = last.after } in
              subst (λ r. SalvagesEach (use_under leading) names [] (opening_seen start) (record { layers = last.layers; readings = r; after = last.after })) (sym (append_assoc walked.readings walks.readings last.readings))
              (walked.finds whole (first, last, from, h, refl));
          on = GoesOn-more files walked.on walks.on;
          knows = walks.knows;
          read = λ whole.
              let (now, all) = walks.read whole in
              let (begun, so_far) = walked.read now in
              let here_read = subst (λ n. All (IsRead (length n + chain.height)) walks.readings) (names_on files start here walked.on.names) all in
              (begun, All-append (IsRead (length leading + chain.height)) walked.readings walks.readings (IsRead-more (length leading + base.height) (length leading + chain.height) (omega (arith, higher)) walked.readings so_far) here_read);
          fits = walks.fits;
          given = walks.given;
        }

    pub walks_each : (names : List (List ℕ)) (wanted : Bool) (start here : Walk) (chain : Chain) → Walked names [] wanted start here chain
        → WalksUses files below names wanted start here chain
    walks_each names wanted start here chain walked = record {
      layers = walked.layers;
      readings = walked.readings;
      finds = subst (λ r. SalvagesEach (use_under (names_at files start)) names [] (opening_seen start) (record { layers = walked.layers; readings = r; after = opening_seen here })) (append-nil walked.readings)
          (walked.finds (record { layers = walked.layers; readings = []; after = opening_seen here }) refl);
      on = walked.on;
      knows = walked.knows;
      read = walked.read;
      fits = walked.fits;
      given = walked.given;
    }

    -- the names have the numbers of a slice, and there are some after them
    module _ (names : List (List ℕ)) (numbers : List ℕ) (i : ℕ) (rest : List (List ℕ)) (wanted : Bool) (start here : Walk) (chain : Chain) (walked : Walked names (drop i (map (text_at files.texts) numbers) ++ rest) wanted start here chain) where
      pub walked_at : i < length numbers → Walked names (text_at files.texts (get_or numbers i 0) ∷ (drop (i + 1) (map (text_at files.texts) numbers) ++ rest)) wanted start here chain
      walked_at lt =
          let name = get_or-map (text_at files.texts) numbers i 0 [] lt in
          subst (λ r. Walked names (r ++ rest) wanted start here chain) (drop_more (map (text_at files.texts) numbers) i [] (simp length-map lt) ∙ ap (λ x. x ∷ drop (i + 1) (map (text_at files.texts) numbers)) name) walked

      pub walked_end : length numbers ≤ i → Walked names rest wanted start here chain
      walked_end le = subst (λ r. Walked names (r ++ rest) wanted start here chain) (drop_all i (map (text_at files.texts) numbers) (simp length-map le)) walked

    -- ---- files
    -- a file, then its uses
    pub walks_file : (stored : Stored) (file : File) (wanted : Bool) (old start new : Walk) (base chain : Chain) → ReadsOn files stored old start file → chain.height ≡ base.height
        → ((wanted ≡ true) ⊎ (new.is_closed ≡ true) → layers_on files chain.path.items ≡ layer_of file ∷ layers_on files base.path.items)
        → WalksUses files below file.uses wanted start new base → WalksFile files below stored wanted old new chain
    walks_file stored file wanted old start new base chain reads same made walks =
        let leading = names_at files old in
        let here : Reading = record { names = leading; causes = reads.causes } in
        let under : Found = record { layers = walks.layers; readings = walks.readings; after = opening_seen new } in
        let each = subst (λ n. SalvagesEach (use_under n) file.uses [] (opening_seen start) under) (names_on files old start reads.on.names) walks.finds in
        let each_here = subst (λ c. SalvagesEach (use_under leading) file.uses [] (record { left = start.search.left; closed = c }) under) reads.closed each in
        record {
          layers = layer_of file ∷ walks.layers;
          readings = here ∷ walks.readings;
          finds = (file, reads.causes, start.search.left, under, reads.reads, each_here, refl);
          on = GoesOn-more files reads.on walks.on;
          knows = walks.knows;
          read = λ whole.
              let (now, all) = walks.read whole in
              let (begun, room) = reads.read now in
              let here_read = subst (λ h. All (IsRead (length leading + h)) walks.readings) (sym same) (subst (λ n. All (IsRead (length n + base.height)) walks.readings) (names_on files old start reads.on.names) all) in
              (begun, All-cons (IsRead (length leading + chain.height)) here walks.readings (record { short = omega arith; room = room }) here_read);
          fits = subst (λ h. h ≤ below) (sym same) walks.fits;
          given = λ asked. made asked ∙ ap (λ l. layer_of file ∷ l) (walks.given asked);
        }

  -- ---- the file of a name
  -- it is counted
  pub walks_named : (n below : ℕ) (room : suc n ≡ below) (name : List ℕ) (stored : Stored) (wanted : Bool) (old new : Walk) (file chain : Chain) → IsAnswer files name (Some stored) → chain.path ≡ file.path → chain.height ≡ file.height + 1
      → WalksFile files n stored wanted old new file → WalksNamed files below name wanted old new chain
  walks_named n below room name stored wanted old new file chain said layers higher walks =
      let leading = names_at files old in
      record {
        layers = walks.layers;
        readings = walks.readings;
        finds = subst (λ m. SalvagesNamed (IsAnswer files) (Over files m) m leading name (opening_seen old) (record { layers = walks.layers; readings = walks.readings; after = opening_seen new })) room (inr (stored, said, walks.finds));
        on = walks.on;
        knows = walks.knows;
        read = λ whole. let (first, all) = walks.read whole in (first, IsRead-more (length leading + file.height) (length leading - 1 + chain.height) (omega (arith, higher)) walks.readings all);
        fits = omega (arith, higher, walks.fits, room);
        given = λ asked. ap (λ l. layers_on files l.items) layers ∙ walks.given asked;
      }

  -- it exceeds the budget
  pub walks_too_long : (n below : ℕ) (room : suc n ≡ below) (name : List ℕ) (count : ℕ) (wanted : Bool) (old new : Walk) (chain : Chain) → IsAnswer files name (Some (Stored.too_long count)) → IsOver old.search.left count → Knows files old
      → Lists files.texts old.faults new.faults (names_at files old) (OverBudget ∷ []) → new ≡ record old { faults = new.faults; is_cut = true } → chain.path.items ≡ None ∷ [] → chain.height ≡ 1 → WalksNamed files below name wanted old new chain
  walks_too_long n below room name count wanted old new chain said over knows lists same one height =
      let leading = names_at files old in
      let here : Reading = record { names = leading; causes = OverBudget ∷ [] } in
      let search : new.search ≡ old.search = ap (λ w. w.search) same in
      let opening : opening_seen new ≡ opening_seen old = ap opening_seen same in
      let on : GoesOn files old new (here ∷ []) = record { names = ap (λ s. s.names.items) search; all = lists.all } in
      let layers = layers_on files (None ∷ []) in
      let found : Opening → Found = λ after. record { layers = layers; readings = here ∷ []; after = after } in
      let file : Over files (suc n) leading (Stored.too_long count) (opening_seen old) (found (opening_seen old)) =
      (no_file, OverBudget ∷ [], old.search.left, record { layers = []; readings = []; after = opening_seen old }, inl (over, refl, refl, refl), refl, refl) in
      record {
        layers = layers;
        readings = here ∷ [];
        finds = subst (λ o. SalvagesNamed (IsAnswer files) (Over files below) below leading name (opening_seen old) (found o)) (sym opening)
            (subst (λ m. SalvagesNamed (IsAnswer files) (Over files m) m leading name (opening_seen old) (found (opening_seen old))) room (inr (Stored.too_long count, said, file)));
        on = on;
        knows = Knows-more files old new (here ∷ []) knows (ap (λ s. s.known) search) on lists.marked;
        read = λ whole. absurd (let cut = ap (λ w. w.is_cut) same in cc);
        fits = omega (arith, height, room);
        given = λ asked. ap (layers_on files) one;
      }

  -- there is none
  pub walks_missing : (below : ℕ) (name : List ℕ) (cause : Cause) (wanted : Bool) (old new : Walk) (chain : Chain)
      → SalvagesNamed (IsAnswer files) (Over files below) below (names_at files old) name (opening_seen old) (no_layers (names_at files old) cause (opening_seen new)) → Knows files old
      → Lists files.texts old.faults new.faults (names_at files old) (cause ∷ []) → new.search ≡ old.search → (new.is_cut ≡ false → (old.is_cut ≡ false) × (chain.height ≡ 1) × HasRoom (cause ∷ []))
      → chain.path.items ≡ [] → chain.height ≤ below → WalksNamed files below name wanted old new chain
  walks_missing below name cause wanted old new chain finds knows lists search whole none fits =
      let leading = names_at files old in
      let here : Reading = record { names = leading; causes = cause ∷ [] } in
      let on : GoesOn files old new (here ∷ []) = record { names = ap (λ s. s.names.items) search; all = lists.all } in
      record {
        layers = [];
        readings = here ∷ [];
        finds = finds;
        on = on;
        knows = Knows-more files old new (here ∷ []) knows (ap (λ s. s.known) search) on lists.marked;
        read = λ is.
            let (begun, one, room) = whole is in
            (begun, one_read (length leading - 1 + chain.height) leading (cause ∷ []) (omega (arith, one)) room);
        fits = fits;
        given = λ asked. ap (layers_on files) none;
      }

-- the chain has no room for the file
pub no_room : (answer : List ℕ → Option Stored → Type 0) (salvages : List (List ℕ) → Stored → Opening → Found → Type 0) (below : ℕ) → below ≡ 0 → (names : List (List ℕ)) (name : List ℕ) (opening after : Opening) → after ≡ record { left = opening.left; closed = true }
    → SalvagesNamed answer salvages below names name opening (no_layers names ChainLength after)
no_room answer salvages below none names name opening after same =
    subst (λ m. SalvagesNamed answer salvages m names name opening (no_layers names ChainLength after)) (sym none) (ap (no_layers names ChainLength) same)

-- no file has the name
pub no_answer : (answer : List ℕ → Option Stored → Type 0) (salvages : ℕ → List (List ℕ) → Stored → Opening → Found → Type 0) (n below : ℕ) → suc n ≡ below → (names : List (List ℕ)) (name : List ℕ) (opening after : Opening) → answer name None → after ≡ opening
    → SalvagesNamed answer (salvages below) below names name opening (no_layers names NoFile after)
no_answer answer salvages n below room names name opening after said same =
    subst (λ m. SalvagesNamed answer (salvages m) m names name opening (no_layers names NoFile after)) room (inl (said, ap (no_layers names NoFile) same))

-- the top file
pub walks_top : (files : Files) (budget : Option ℕ) (start end : Walk) (chain : Chain) → start.search.names.items ≡ [] → start.faults.list.items ≡ [] → opening_seen start ≡ record { left = budget; closed = false }
    → WalksFile files 15 (Stored.at 0) true start end chain → IsSalvaged files budget (layers_on files chain.path.items) (listed files.texts end.faults)
walks_top files budget start end chain no_names no_faults opening walks =
    let found : Found = record { layers = walks.layers; readings = walks.readings; after = opening_seen end } in
    let begun = subst (λ n. Over files 16 (map (text_at files.texts) n) (Stored.at 0) (opening_seen start) found) no_names walks.finds in
    let opened = subst (λ o. Over files 16 [] (Stored.at 0) o found) opening begun in
    let given = subst (λ l. Over files 16 [] (Stored.at 0) (record { left = budget; closed = false }) (record { layers = l; readings = walks.readings; after = opening_seen end })) (sym (walks.given (inl refl))) opened in
    record { readings = walks.readings; after = opening_seen end; over = given; listed = walks.on.all ∙ ap (λ f. list_each (map (fault_named files.texts) f) walks.readings) no_faults }
