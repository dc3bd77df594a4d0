use Rattle.std.proofs.Common.{◌≡◌, ◌∙◌, refl, sym, ap, true, length}
use Rattle.std.specs.Prelude.{codes, Ok}
use Rattle.std.proofs.lemmas.List.{length-map}
use Rattle.cmap_tokens.specs.TokenSeen.{token_seen}
use Rattle.cmap_values.specs.DeclarationsSeen.{bf_entry_seen, lists_seen}
use Rattle.cmap_text.specs.Salvage.{Texts, in_list}
use Rattle.cmap_text.specs.TextReading.{is_executable}
use Rattle.cmap_text.proofs.salvage.Found.fill_texts.Goals as goal

pub returns-then-is_executable : goal.returns-then-is_executable
returns-then-is_executable c =
    let lists = lists_seen c.args.self.now.said.lists in
    let opens : is_executable (codes "[") (token_seen c.args.token.now) ≡ true = sym c.is_executable.ensures ∙ c.if-is_executable.true in
    let count : length lists.bfs ≡ c.len-count.result = length-map c.args.self.now.said.lists.bfs.items bf_entry_seen ∙ sym c.args.self.now.said.lists.bfs.ok.0 ∙ sym c.len-count.ensures in
    ((lists, rw opens (ap (λ n. let l : Texts = record { first = c.args.start.number; next = c.args.start.number; last = c.args.end.number; kept = n; begins_line = c.args.entry.begins_line; one_line = c.args.entry.begins_line } in Ok (in_list l, lists)) count ∙ ap (λ l. Ok (in_list l, lists)) (sym c.new.ensures)), refl), tt)
