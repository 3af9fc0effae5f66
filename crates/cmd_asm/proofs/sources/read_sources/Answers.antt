use Rattle.std.proofs.Common.{◌≡◌, refl, arith, rules, map, ap, sym, subst, string_bytes}
use Rattle.std.specs.Io.KnownBytes.{Consumes}
use Rattle.std.specs.Str.{IsUtf8}
use Rattle.cmd_asm.proofs.SourcesLemmas.{all_are_read, is_other, count_is_low, count_rises, counts_stay, one_is_other, one_is_read, texts_more}
use Rattle.cmd_asm.proofs.sources.read_sources.Goals as goal

pub read_all-requires : goal.read_all-requires
read_all-requires g c =
    count_is_low g.S.Source.left g.S.Source.failures c.sources.sources _ c.sources.place c.index-sources-place.result c.index-sources-place.result
    c.sources.invariant.2 (omega (arith, c.sources.invariant.1)) c.requires

pub returns-in-Err-Device-clause-read : goal.returns-in-Err-Device-clause-read
returns-in-Err-Device-clause-read g c =
    count_rises g.S.Source.left g.S.Source.failures c.sources.sources _ c.sources.place c.index-sources-place.result c.read_all.new.source
    c.sources.invariant.2 (omega (arith, c.sources.invariant.1)) (search rules)

pub returns-in-Err-clause-other : goal.returns-in-Err-clause-other
returns-in-Err-clause-other g c =
    one_is_other g.S.Source.left g.S.Source.failures c.sources.sources _ c.sources.place c.index-sources-place.result c.read_all.new.source
    c.sources.invariant.2 (omega (arith, c.sources.invariant.1)) string_bytes _ c.sources.texts.items c.in-Ok.bytes.items
    c.sources.invariant.3 c.in-Ok.ensures.bytes c.in-Ok.ensures.end c.sources.invariant.4 c.sources.invariant.5
    (is_other c.in-Ok.bytes.items _ refl (λ utf8. c.in-Err.ensures.succeeds utf8))

pub sources-preserved : goal.sources-preserved
sources-preserved g c =
    let text : string_bytes c.in-Ok-from_utf8.text ≡ c.in-Ok.bytes.items = ap (λ bytes. bytes.items) c.in-Ok-from_utf8.ensures.ok in (
      omega (arith, c.sources.invariant.1),
      search rules,
      counts_stay g.S.Source.left g.S.Source.failures c.sources.sources _ c.sources.place c.index-sources-place.result c.read_all.new.source
          c.sources.invariant.2 (omega (arith, c.sources.invariant.1)) c.in-Ok.ensures.count,
      one_is_read g.S.Source.left g.S.Source.failures c.sources.sources _ c.sources.place c.index-sources-place.result c.read_all.new.source
          c.sources.invariant.2 (omega (arith, c.sources.invariant.1)) string_bytes _ c.sources.texts.items c.push.new.self.items c.in-Ok-from_utf8.text
          c.in-Ok-push.ensures.items c.sources.invariant.3 (subst (Consumes _ _) (sym text) c.in-Ok.ensures.bytes) c.in-Ok.ensures.end,
      texts_more string_bytes c.sources.texts.items c.push.new.self.items c.in-Ok-from_utf8.text c.in-Ok-push.ensures.items
          c.sources.invariant.4 (subst IsUtf8 c.as_str-bytes.ensures.value c.as_str-bytes.utf8),
      search rules,
    )

pub returns-clause-texts : goal.returns-clause-texts
returns-clause-texts g c =
    all_are_read g.S.Source.left c.sources.sources c.sources.place _ (map string_bytes c.sources.texts.items) c.sources-test.false
    c.sources.invariant.3 c.sources.invariant.4
