-- Fields in a row that are written, and read back.
use Rattle.std.proofs.Common.{◌≡◌, ℕ, zero, suc, ◌+◌, ◌*◌, ◌^◌, ◌<◌, List, [], ◌∷◌, ◌++◌, length, refl, ap, ◌∙◌, sym, subst, arith}
use Rattle.std.specs.List.{All, flat_map}
use Rattle.std.proofs.lemmas.List.{append_assoc, append-nil}
use Rattle.std.proofs.lemmas.List.Elements.{All-head, All-tail}
use Rattle.std.proofs.lemmas.Nat.{pow-add}
use Rattle.cmap_values.specs.CodeLengths.{IsCodeLength, length_of}
use Rattle.cmap_values.specs.Files.{CidEntry, Codespace}
use Rattle.cmap_values.specs.declared.code_length.CodeLength.{CodeLength}
use Rattle.cmap_values.specs.declared.code_length.CodeLength.TheVariants.{One, Two, Three, Four}
use Rattle.cmap_binary.specs.BinaryFiles.{CodespaceAt, CodespacesIn, NotdefAt, NotdefsIn}
use Rattle.cmap_binary.specs.Fronts.{CodeAt, RowOf}
use Rattle.cmap_binary_writer.specs.Fields.{CodeFits, NotdefFits, SpaceFits, notdef_bytes, notdefs_payload, space_bytes, spaces_payload}
use Rattle.cmap_binary_writer.specs.Written.{bytes_of, Writes, WritesAll}
use Rattle.cmap_binary_writer.proofs.FrontsWritten.{FieldAt-written}

-- things in a row
pub row_of : {A : Type 0} (item : List ℕ → A × List ℕ → Type 0) (xs : List A) (bytes rest : List ℕ) → WritesAll item xs bytes → RowOf item (length xs) (bytes ++ rest) (xs, rest)
row_of item [] bytes rest none = ap (λ bs. ([], bs ++ rest)) (sym none)
row_of item (x ∷ xs) bytes rest (first, later, parts, at, more) =
    let whole : bytes ++ rest ≡ first ++ (later ++ rest) = ap (λ bs. bs ++ rest) parts ∙ append_assoc first later rest in
    subst (λ bs. RowOf item (suc (length xs)) bs (x ∷ xs, rest)) (sym whole) (x, later ++ rest, at (later ++ rest), (xs, rest, row_of item xs later rest more, refl))

pub is_length : (len : CodeLength) → IsCodeLength (length_of len)
is_length One = (omega arith, omega arith)
is_length Two = (omega arith, omega arith)
is_length Three = (omega arith, omega arith)
is_length Four = (omega arith, omega arith)

pub byte_power : (len : ℕ) → 256 ^ len ≡ 2 ^ (8 * len)
byte_power zero = omega arith
byte_power (suc len) =
    let more : 8 + 8 * len ≡ 8 * suc len = omega arith in
    let one : suc len ≡ 1 + len = omega arith in
    ap (λ k. 256 ^ k) one ∙ pow-add 256 1 len ∙ ap (λ n. 256 * n) (byte_power len) ∙ sym (pow-add 2 8 (8 * len)) ∙ ap (λ k. 2 ^ k) more

pub code_written : (len code : ℕ) → CodeFits len code → Writes (CodeAt len) code (bytes_of len code)
code_written len code fits rest = (fits.length, FieldAt-written len code rest (subst (λ most. code < most) (byte_power len) fits.small))

-- start, end, CID
pub notdef_written : (len : ℕ) (e : CidEntry) → NotdefFits len e → Writes (NotdefAt len) e (notdef_bytes len e)
notdef_written len e (start, end, small) rest =
    let first = bytes_of len e.start in
    let second = bytes_of len e.end in
    let cid = bytes_of 2 e.cid in
    let parts : notdef_bytes len e ++ rest ≡ first ++ (second ++ (cid ++ rest)) = append_assoc first (second ++ cid) rest ∙ ap (λ bs. first ++ bs) (append_assoc second cid rest) in
    subst (λ bs. NotdefAt len bs (e, rest)) (sym parts) (e.start, second ++ (cid ++ rest), code_written len e.start start (second ++ (cid ++ rest)), (e.end, cid ++ rest, code_written len e.end end (cid ++ rest), (e.cid, rest, FieldAt-written 2 e.cid rest small, refl)))

-- length, low, high
pub space_written : (space : Codespace) → SpaceFits space → Writes CodespaceAt space (space_bytes space)
space_written space (low, high) rest =
    let len = space.len in
    let first = bytes_of len space.low in
    let second = bytes_of len space.high in
    subst (λ bs. CodespaceAt (len ∷ bs) (space, rest)) (sym (append_assoc first second rest)) (len, first ++ (second ++ rest), refl, (space.low, second ++ rest, code_written len space.low low (second ++ rest), (space.high, rest, code_written len space.high high rest, refl)))

-- things in a row, each of which is written so
pub all_written : {A : Type 0} (item : List ℕ → A × List ℕ → Type 0) (fits : A → Type 0) (bytes : A → List ℕ) → ((x : A) → fits x → Writes item x (bytes x)) → (xs : List A) → All fits xs → WritesAll item xs (flat_map bytes xs)
all_written item fits bytes one [] all = refl
all_written item fits bytes one (x ∷ xs) all = (bytes x, flat_map bytes xs, refl, one x (All-head fits x xs all), all_written item fits bytes one xs (All-tail fits x xs all))

-- ---- payloads
pub notdefs_read : (len : ℕ) (es : List CidEntry) → length es < 2 ^ 16 → All (NotdefFits len) es → NotdefsIn (notdefs_payload len es) (len, es)
notdefs_read len es few all =
    let bytes = flat_map (notdef_bytes len) es in
    let row : RowOf (NotdefAt len) (length es) bytes (es, []) = subst (λ bs. RowOf (NotdefAt len) (length es) bs (es, [])) (append-nil bytes) (row_of (NotdefAt len) es bytes [] (all_written (NotdefAt len) (NotdefFits len) (notdef_bytes len) (notdef_written len) es all)) in
    (len, bytes_of 2 (length es) ++ bytes, refl, (length es, bytes, FieldAt-written 2 (length es) bytes few, (es, [], row, refl)))

pub spaces_read : (spaces : List Codespace) → All SpaceFits spaces → CodespacesIn (spaces_payload spaces) spaces
spaces_read spaces all =
    let bytes = flat_map space_bytes spaces in
    let row : RowOf CodespaceAt (length spaces) bytes (spaces, []) = subst (λ bs. RowOf CodespaceAt (length spaces) bs (spaces, [])) (append-nil bytes) (row_of CodespaceAt spaces bytes [] (all_written CodespaceAt SpaceFits space_bytes space_written spaces all)) in
    (length spaces, bytes, refl, (spaces, [], row, refl))
