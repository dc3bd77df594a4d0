-- The lists of a file whose declarations are written kind by kind.
use Rattle.std.proofs.Common.{◌≡◌, ◌∙◌, List, [], ◌∷◌, ◌++◌, map, refl, ap}
use Rattle.std.proofs.lemmas.List.{append-nil}
use Rattle.cmap_values.specs.Files.{BfEntry, ByLength, CidEntry, Codespace, Declaration, Lists, lists_of}
use Rattle.cmap_values.specs.ListsAppended.{append_lists}
use Rattle.cmap_values.proofs.ListsMade.{lists_of-append}
use Rattle.cmap_values.specs.ListsByKind.{by_length}

-- ---- lists of one kind
abbrev none : ByLength
none = record { one = []; two = []; three = []; four = [] }

abbrev lists : ByLength → ByLength → List Codespace → Lists
lists cids notdefs spaces = record { cids = cids; notdefs = notdefs; bfs = []; spaces = spaces }

abbrev one : List CidEntry → ByLength
one es = record { one = es; two = []; three = []; four = [] }

abbrev two : List CidEntry → ByLength
two es = record { one = []; two = es; three = []; four = [] }

abbrev three : List CidEntry → ByLength
three es = record { one = []; two = []; three = es; four = [] }

abbrev four : List CidEntry → ByLength
four es = record { one = []; two = []; three = []; four = es }

cids_one : (es : List CidEntry) → lists_of (map (Declaration.cid 1) es) ≡ lists (one es) none []
cids_one [] = refl
cids_one (e ∷ es) = ap (λ (l : Lists). record { cids = record { one = e ∷ l.cids.one; two = l.cids.two; three = l.cids.three; four = l.cids.four }; notdefs = l.notdefs; bfs = l.bfs; spaces = l.spaces }) (cids_one es)

cids_two : (es : List CidEntry) → lists_of (map (Declaration.cid 2) es) ≡ lists (two es) none []
cids_two [] = refl
cids_two (e ∷ es) = ap (λ (l : Lists). record { cids = record { one = l.cids.one; two = e ∷ l.cids.two; three = l.cids.three; four = l.cids.four }; notdefs = l.notdefs; bfs = l.bfs; spaces = l.spaces }) (cids_two es)

cids_three : (es : List CidEntry) → lists_of (map (Declaration.cid 3) es) ≡ lists (three es) none []
cids_three [] = refl
cids_three (e ∷ es) = ap (λ (l : Lists). record { cids = record { one = l.cids.one; two = l.cids.two; three = e ∷ l.cids.three; four = l.cids.four }; notdefs = l.notdefs; bfs = l.bfs; spaces = l.spaces }) (cids_three es)

cids_four : (es : List CidEntry) → lists_of (map (Declaration.cid 4) es) ≡ lists (four es) none []
cids_four [] = refl
cids_four (e ∷ es) = ap (λ (l : Lists). record { cids = record { one = l.cids.one; two = l.cids.two; three = l.cids.three; four = e ∷ l.cids.four }; notdefs = l.notdefs; bfs = l.bfs; spaces = l.spaces }) (cids_four es)

notdefs_one : (es : List CidEntry) → lists_of (map (Declaration.notdef 1) es) ≡ lists none (one es) []
notdefs_one [] = refl
notdefs_one (e ∷ es) = ap (λ (l : Lists). record { cids = l.cids; notdefs = record { one = e ∷ l.notdefs.one; two = l.notdefs.two; three = l.notdefs.three; four = l.notdefs.four }; bfs = l.bfs; spaces = l.spaces }) (notdefs_one es)

notdefs_two : (es : List CidEntry) → lists_of (map (Declaration.notdef 2) es) ≡ lists none (two es) []
notdefs_two [] = refl
notdefs_two (e ∷ es) = ap (λ (l : Lists). record { cids = l.cids; notdefs = record { one = l.notdefs.one; two = e ∷ l.notdefs.two; three = l.notdefs.three; four = l.notdefs.four }; bfs = l.bfs; spaces = l.spaces }) (notdefs_two es)

notdefs_three : (es : List CidEntry) → lists_of (map (Declaration.notdef 3) es) ≡ lists none (three es) []
notdefs_three [] = refl
notdefs_three (e ∷ es) = ap (λ (l : Lists). record { cids = l.cids; notdefs = record { one = l.notdefs.one; two = l.notdefs.two; three = e ∷ l.notdefs.three; four = l.notdefs.four }; bfs = l.bfs; spaces = l.spaces }) (notdefs_three es)

notdefs_four : (es : List CidEntry) → lists_of (map (Declaration.notdef 4) es) ≡ lists none (four es) []
notdefs_four [] = refl
notdefs_four (e ∷ es) = ap (λ (l : Lists). record { cids = l.cids; notdefs = record { one = l.notdefs.one; two = l.notdefs.two; three = l.notdefs.three; four = e ∷ l.notdefs.four }; bfs = l.bfs; spaces = l.spaces }) (notdefs_four es)

of_spaces : (spaces : List Codespace) → lists_of (map Declaration.codespace spaces) ≡ lists none none spaces
of_spaces [] = refl
of_spaces (s ∷ spaces) = ap (λ (l : Lists). record { cids = l.cids; notdefs = l.notdefs; bfs = l.bfs; spaces = s ∷ l.spaces }) (of_spaces spaces)

appended : {p p' q q' : Lists} → p ≡ p' → q ≡ q' → append_lists p q ≡ append_lists p' q'
appended {p} {p'} {q} {q'} first second = ap (λ l. append_lists l q) first ∙ ap (append_lists p') second

of_cids : (a b c d : List CidEntry) → lists_of (by_length Declaration.cid a b c d) ≡ lists (record { one = a; two = b; three = c; four = d }) none []
of_cids a b c d =
    lists_of-append (map (Declaration.cid 1) a) (map (Declaration.cid 2) b ++ (map (Declaration.cid 3) c ++ map (Declaration.cid 4) d))
    ∙ appended (cids_one a) (lists_of-append (map (Declaration.cid 2) b) (map (Declaration.cid 3) c ++ map (Declaration.cid 4) d) ∙ appended (cids_two b) (lists_of-append (map (Declaration.cid 3) c) (map (Declaration.cid 4) d) ∙ appended (cids_three c) (cids_four d)))
    ∙ rw (append-nil a, append-nil b, append-nil c) refl

of_notdefs : (a b c d : List CidEntry) → lists_of (by_length Declaration.notdef a b c d) ≡ lists none (record { one = a; two = b; three = c; four = d }) []
of_notdefs a b c d =
    lists_of-append (map (Declaration.notdef 1) a) (map (Declaration.notdef 2) b ++ (map (Declaration.notdef 3) c ++ map (Declaration.notdef 4) d))
    ∙ appended (notdefs_one a) (lists_of-append (map (Declaration.notdef 2) b) (map (Declaration.notdef 3) c ++ map (Declaration.notdef 4) d) ∙ appended (notdefs_two b) (lists_of-append (map (Declaration.notdef 3) c) (map (Declaration.notdef 4) d) ∙ appended (notdefs_three c) (notdefs_four d)))
    ∙ rw (append-nil a, append-nil b, append-nil c) refl

of_texts : (es : List BfEntry) → lists_of (map Declaration.bf es) ≡ record { cids = none; notdefs = none; bfs = es; spaces = [] }
of_texts [] = refl
of_texts (e ∷ es) = ap (λ (l : Lists). record { cids = l.cids; notdefs = l.notdefs; bfs = e ∷ l.bfs; spaces = l.spaces }) (of_texts es)

-- all kinds, one after another
pub all_kinds : (spaces : List Codespace) (n c : ByLength) (texts : List BfEntry) → lists_of ((map Declaration.codespace spaces ++ by_length Declaration.notdef n.one n.two n.three n.four) ++ (by_length Declaration.cid c.one c.two c.three c.four ++ map Declaration.bf texts)) ≡ record { cids = c; notdefs = n; bfs = texts; spaces = spaces }
all_kinds spaces n c texts =
    let first = map Declaration.codespace spaces in
    let notdefs = by_length Declaration.notdef n.one n.two n.three n.four in
    let cids = by_length Declaration.cid c.one c.two c.three c.four in
    let last = map Declaration.bf texts in
    lists_of-append (first ++ notdefs) (cids ++ last)
    ∙ appended (lists_of-append first notdefs ∙ appended (of_spaces spaces) (of_notdefs n.one n.two n.three n.four)) (lists_of-append cids last ∙ appended (of_cids c.one c.two c.three c.four) (of_texts texts))
    ∙ rw (append-nil n.one, append-nil n.two, append-nil n.three, append-nil n.four, append-nil c.one, append-nil c.two, append-nil c.three, append-nil c.four, append-nil spaces, append-nil spaces) refl
