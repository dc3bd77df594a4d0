use Rattle.std.proofs.Common.{ℕ, List, inl, inr}
use Rattle.std.specs.Prelude.{IfNone, IfSome, MatchOption, Option, Some, None}
use Rattle.cmap_binary.specs.BundleSeen.{tables_given}
use Rattle.cmap_binary.specs.Bundles.{PrefixTables}
use Rattle.cmap_layers.specs.Layers.{Layer}
use Rattle.cmap_load.specs.Opened.{IsIdentity, IsMapNamed, IsNoIdentity, IsUnknown}
use Rattle.cmap_values.proofs.Outcomes.{refused_as}
use Rattle.cmap_load.proofs.from_source.open_layers.Goals as goal

-- no file has the name: what it names is an identity, or nothing
module _ (answers : List ℕ → Option (List ℕ) → Type 0) (name : List ℕ) (missing : answers name None) where
  names_identity : (tables : Option PrefixTables) (found : Option (List Layer)) → MatchOption found (IsNoIdentity name) (IsIdentity name) → IfSome found (IsMapNamed tables answers name)
  names_identity tables (Some layers) is = inr (missing, is)
  names_identity tables None is = tt

  names_nothing : (found : Option (List Layer)) → MatchOption found (IsNoIdentity name) (IsIdentity name) → IfNone found (IsUnknown answers name)
  names_nothing (Some layers) is = tt
  names_nothing None is = (missing, is)

pub returns-in-Ok : goal.returns-in-Ok
returns-in-Ok g c =
    let bytes = c.in-Some.«data».now in
    record {
      accepts = inl (bytes, c.in-Some.ensures, c.in-Ok.ensures.accepts);
      absent = tt;
      within = inl (bytes, c.in-Some.ensures, c.in-Ok.ensures.within);
      refuses = tt;
      over = tt;
      blames = tt;
      few = tt;
    }

pub returns-in-Err : goal.returns-in-Err
returns-in-Err g c =
    let bytes = c.in-Some.«data».now in
    let said = c.in-Some.ensures in
    record {
      accepts = tt;
      absent = tt;
      within = tt;
      refuses = refused_as c.in-Err.fault c.in-Err.ensures.refuses (λ refusal refuses other. let (none, fits) = refuses other in ((bytes, said, none), inl (bytes, said, fits)));
      over = refused_as c.in-Err.fault c.in-Err.ensures.over (λ refusal over is. (bytes, said, over is));
      blames = refused_as c.in-Err.fault c.in-Err.ensures.blames (λ refusal leads. (bytes, said, leads));
      few = c.in-Err.ensures.few;
    }

pub returns-in-Ok-identity_named : goal.returns-in-Ok-identity_named
returns-in-Ok-identity_named g c =
    let answers = g.S.Source.answers c.args.source.now in
    let missing = rw c.in-None.is at c.file.ensures in
    let identity = c.in-Ok-identity_named.identity in
    record {
      accepts = names_identity answers c.args.name.now missing (tables_given c.args.bundle) identity c.in-Ok-identity_named.ensures;
      absent = names_nothing answers c.args.name.now missing identity c.in-Ok-identity_named.ensures;
      within = inr missing;
      refuses = tt;
      over = tt;
      blames = tt;
      few = tt;
    }
