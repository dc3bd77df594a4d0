use Rattle.std.proofs.Common.{◌<◌, ◌*◌, ◌^◌, ◌∙◌, ◌++◌, length, ap, sym, subst}
use Rattle.std.specs.List.{All, flat_map}
use Rattle.std.proofs.lemmas.Result.{IfOk-from_err, IfOk-weaker}
use Rattle.cmap_binary_writer.specs.Written.{bytes_of, Appends, Writes}
use Rattle.cmap_binary_writer.proofs.TablesWritten.{table_len, table_written}
use Rattle.cmap_binary_writer.proofs.FrontsWritten.{fields}
use Rattle.cmap_binary.specs.TableFronts.{TableAt}
use Rattle.cmap_binary_writer.proofs.words.Encoder.write.Goals as goal

pub returns-clause-written : goal.returns-clause-written
returns-clause-written c =
    let i = c.self.inside in
    let width = c.args.width in
    let fit = subst (λ t. All (λ p. p.symbol < 2 ^ (8 * width)) t) (sym c.self.view_is) c.requires.symbols in
    IfOk-weaker _ _ _ (λ _ symbols.
    subst (λ t. Appends c.args.out.now.items c.push_symbols.new.out.items (Writes (TableAt width) t)) c.self.view_is
    (table_written width _ c.args.out.now.items c.push_number.new.out.items c.push.new.self.items c.push_u16s.new.out.items c.push_symbols.new.out.items i.counts.items i.words.items
    c.in_ok-push_number.ensures
    c.in_ok-push.ensures.items
    (c.in_ok-push_u16s.ensures.written ∙ ap (λ ns. c.push.new.self.items ++ fields 2 ns) c.deref.ensures.value)
    (symbols ∙ ap (λ ws. c.push_u16s.new.out.items ++ flat_map (λ w. bytes_of width w.symbol) ws) c.deref-2.ensures.value)
    (c.len.ensures ∙ sym c.deref.ensures.len ∙ ap length c.deref.ensures.value)
    (subst (λ ns. All (λ n. n < 2 ^ 16) ns) c.deref.ensures.value c.in_ok-push_u16s.ensures.small)
    fit
    c.self.invariant.sound
    c.self.invariant.counts)) c.push_symbols.ensures

pub returns-clause-len : goal.returns-clause-len
returns-clause-len c =
    let words = c.self.inside.words.items in
    let counts = c.self.inside.counts.items in
    let small = subst (λ ns. All (λ n. n < 2 ^ 16) ns) c.deref.ensures.value c.in_ok-push_u16s.ensures.small in
    IfOk-weaker _ _ _ (λ _ symbols. table_len c.args.width _ words counts c.args.out.now.items c.push_number.new.out.items c.push.new.self.items c.push_u16s.new.out.items c.push_symbols.new.out.items
    c.in_ok-push_number.ensures
    c.in_ok-push.ensures.items
    (c.in_ok-push_u16s.ensures.written ∙ ap (λ ns. c.push.new.self.items ++ fields 2 ns) c.deref.ensures.value)
    (symbols ∙ ap (λ ws. c.push_u16s.new.out.items ++ flat_map (λ w. bytes_of c.args.width w.symbol) ws) c.deref-2.ensures.value)
    c.requires.width.1
    small
    c.self.invariant.few
    c.self.invariant.counts) c.push_symbols.ensures

pub returns-in_err-push_number-clause-written : goal.returns-in_err-push_number-clause-written
returns-in_err-push_number-clause-written c = IfOk-from_err _ _ c.from_residual.ensures.0

pub returns-in_err-push-clause-written : goal.returns-in_err-push-clause-written
returns-in_err-push-clause-written c = IfOk-from_err _ _ c.from_residual-in_err-push.ensures.0

pub returns-in_err-push_u16s-clause-written : goal.returns-in_err-push_u16s-clause-written
returns-in_err-push_u16s-clause-written c = IfOk-from_err _ _ c.from_residual-in_err-push_u16s.ensures.0

pub returns-in_err-push_number-clause-len : goal.returns-in_err-push_number-clause-len
returns-in_err-push_number-clause-len c = IfOk-from_err _ _ c.from_residual.ensures.0

pub returns-in_err-push-clause-len : goal.returns-in_err-push-clause-len
returns-in_err-push-clause-len c = IfOk-from_err _ _ c.from_residual-in_err-push.ensures.0

pub returns-in_err-push_u16s-clause-len : goal.returns-in_err-push_u16s-clause-len
returns-in_err-push_u16s-clause-len c = IfOk-from_err _ _ c.from_residual-in_err-push_u16s.ensures.0
