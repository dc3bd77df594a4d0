-- The file of a text is what its items say.
use Rattle.std.proofs.Common.{◌≡◌, ℕ, refl, sym, ap, ◌∙◌, subst, List}
use Rattle.std.specs.Prelude.{Ok, Err, Some, None, option_map}
use Rattle.cmap_tokens.specs.Tokens.{Token, Tokens}
use Rattle.cmap_tokens.specs.TokensLeft.{HasTokens, Left}
use Rattle.cmap_values.specs.Only.{IsOnly, HoldsOfNone}
use Rattle.cmap_values.specs.Files.{FileMetadata}
use Rattle.cmap_text.specs.TextFiles.{Item, names_used, IsTextFile, AreItems}
use Rattle.cmap_text.specs.TextReading.{Said, nothing_said, all_said, AreSaid, last_values}
use Rattle.cmap_text.specs.TokenParsers.{Refused}
use Rattle.cmap_text.proofs.TokensRead.{some_mapped}
use Rattle.cmap_text.proofs.TokenParsers.{err-ok, same_Ok}
use Rattle.cmap_text.proofs.ItemsRead.{all_there, all_found}
use Rattle.cmap_text.proofs.ItemsSaid.{said_after, says_all, all_says, values_said}

module _ (text : List ℕ) (left : Left) (has : HasTokens text left) where
  said_of : (items : List Item) → says_all nothing_said items ≡ option_map (said_after nothing_said items) (names_used None items)
  said_of items = all_says items nothing_said.values nothing_said.lists nothing_said.uses None

  -- the items of the tokens of the text say what is read
  read_items : (tokens : List Token) (items : List Item) (names : List (List ℕ)) → Tokens text tokens → AreItems tokens items → names_used None items ≡ Some names → (rest : Left) × (all_said nothing_said left ≡ Ok (said_after nothing_said items names, rest))
  read_items tokens items names at are used =
      let (same, ends) = (has tokens).0 at in
      all_found items nothing_said left _ (subst (λ l. AreItems l items) (sym same) are) ends (said_of items ∙ ap (option_map (said_after nothing_said items)) used)

  pub said_file : (said : Said) (rest : Left) (metadata : FileMetadata) → all_said nothing_said left ≡ Ok (said, rest) → AreSaid said.values metadata → IsTextFile text (record { metadata = metadata; lists = said.lists; uses = said.uses })
  unfolding IsTextFile said_after
  said_file said rest metadata is metadata_is =
      let (ends, items, are, sayings) = all_there nothing_said left (said, rest) is in
      let (names, used, after) = some_mapped (said_after nothing_said items) (names_used None items) said (sym (said_of items) ∙ sayings) in
      let values_are : last_values items ≡ said.values = values_said items ∙ ap (λ s. s.values) after in
      (_, items, (has _).1 (refl, ends), are, used ∙ ap (λ s. Some s.uses) after, subst (λ v. AreSaid v metadata) (sym values_are) metadata_is, ap (λ s. s.lists) (sym after))

  pub text_file : (said : Said) (rest : Left) (metadata : FileMetadata) → all_said nothing_said left ≡ Ok (said, rest) → IsOnly (AreSaid said.values) metadata → IsOnly (IsTextFile text) (record { metadata = metadata; lists = said.lists; uses = said.uses })
  unfolding IsTextFile said_after
  text_file said rest metadata is only =
      record {
        holds = said_file said rest metadata is only.holds;
        alone = λ file (tokens, others, at, others_are, others_used, metadata_is, others_lists).
            let (end, reads) = read_items tokens others file.uses at others_are others_used in
            let same : said_after nothing_said others file.uses ≡ said = ap (λ p. p.0) (same_Ok _ (said, rest) (sym reads ∙ is)) in
            let metadata_same : file.metadata ≡ metadata = only.alone file.metadata (subst (λ v. AreSaid v file.metadata) (values_said others ∙ ap (λ s. s.values) same) metadata_is) in
            let lists_same : file.lists ≡ said.lists = others_lists ∙ ap (λ s. s.lists) same in
            let uses_same : file.uses ≡ said.uses = ap (λ s. s.uses) same in
            let file_is : file ≡ record { metadata = file.metadata; lists = file.lists; uses = file.uses } = refl in
            file_is ∙ rw (metadata_same, lists_same, uses_same) refl;
      }

  pub no_file : (e : Refused) → all_said nothing_said left ≡ Err e → HoldsOfNone (IsTextFile text)
  unfolding IsTextFile
  no_file e none file (tokens, items, at, are, used, metadata, lists) =
      let (rest, reads) = read_items tokens items file.uses at are used in
      err-ok e _ (sym none ∙ reads)
