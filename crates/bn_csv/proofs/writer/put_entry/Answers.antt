-- csv writes a plain entry's line as it is.
use Rattle.std.proofs.Common.{◌≢◌, map, Bor, List, ℕ, true}
use Rattle.csv.specs.declared.writer.QuoteStyle.TheVariants as style
use Rattle.bn_csv.proofs.LinesLemmas.{row_text-plain}
use Rattle.bn_csv.proofs.writer.put_entry.Goals as goal
use Rattle.bn_csv.proofs.writer.put_entry.Goals.{in-Ok, in-Err}

pub returns-clause-text : goal.returns-clause-text
returns-clause-text c = elim c.match-write_fields.branch [
  | in-Ok w ↦
      let plain : c.args.writer.now.cfg.style ≢ style.NonNumeric = rw c.requires.between.setup (λ e. cc e) in
      let text = w.in-Ok.ensures.bytes c.requires.between.no_field c.requires.between.no_byte plain in
      let line = row_text-plain true (map (λ (f : Bor (List ℕ)). f.now) c.args.fields.now) c.requires.plain in
      rw w.result-is (rw (c.requires.between.setup, line) at text)
  | in-Err w ↦ rw w.result-is tt
]
