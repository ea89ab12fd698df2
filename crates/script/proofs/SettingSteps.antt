-- Which settings go on with a line, by the words into which it falls.
use Rattle.std.proofs.Common.{◌≡◌, ◌≢◌, ◌≤◌, ℕ, true, List, [], ◌∷◌, ◌++◌, map, codes, decimal, None}
use Rattle.std.proofs.Common.{refl, ap, arith}
use Rattle.std.specs.List.{list_all, slice_split, AllByRecursion}
use Rattle.std.proofs.lemmas.Bool.{and_parts}
use Rattle.rows.specs.declared.kind.Kind.{Kind}
use Rattle.rows.specs.Limits.{workers_max, replicas_max}
use Rattle.rows.specs.SchemaFaults.{schema_fault}
use Rattle.script.specs.declared.setup.Setup.{Setup}
use Rattle.script.specs.declared.settings.Settings.TheVariants.{Nothing, Workers, Replicas, Ready}
use Rattle.script.specs.Text.{is_name}
use Rattle.script.specs.Settings.{IsCount, IsNextSetting, IsNoSetting, IsSetup, table_line, workers_line, replicas_line}
use Rattle.script.specs.declared.faults.LineFault.{LineFault}
use Rattle.script.specs.declared.faults.LineFault.TheVariants.{Because, Memory}
use Rattle.script.specs.Inner.LineFaults.{OrMemory}
use Rattle.script.specs.Inner.SettingWords.{table_words, IsTableMore, IsNoTableMore, IsSettingFault}
use Rattle.script.proofs.WordSplitting.{IsPlain, parts_words, words-of-line, line-of-words}
use Rattle.script.proofs.Plain.{plain-by-test, decimal-plain}
use Rattle.script.proofs.TableLines.{HasTableLine, table-plain, schema-has-lines, last-table}

count-plain : (name : List ℕ) (limit count : ℕ) → limit ≤ 16 → IsPlain name → IsCount limit count
    → AllByRecursion IsPlain (name ∷ decimal count ∷ [])
count-plain name limit count few plain is = (plain, (decimal-plain count (omega (arith, is.1)), tt))

no-tables : (tables : List (List ℕ × List Kind)) → schema_fault tables ≡ None → map table_line tables ≡ [] → ⊥
no-tables [] sound none = cc
no-tables (table ∷ tables) sound none = cc

some-line : (front : List (List ℕ)) (line : List ℕ) → [] ≡ front ++ line ∷ [] → ⊥
some-line [] line none = cc
some-line (first ∷ front) line none = cc

module _ (line : List ℕ) (words : List (List ℕ)) (split : words ≡ slice_split parts_words line) where
  workers-set : (count : ℕ) → IsCount workers_max count → words ≡ codes "workers" ∷ decimal count ∷ [] → workers_line count ≡ line
  workers-set count is set = line-of-words line words (codes "workers" ∷ decimal count ∷ []) split set

  replicas-set : (count : ℕ) → IsCount replicas_max count → words ≡ codes "replicas" ∷ decimal count ∷ [] → replicas_line count ≡ line
  replicas-set count is set = line-of-words line words (codes "replicas" ∷ decimal count ∷ []) split set

  workers-words : (count : ℕ) → IsCount workers_max count → workers_line count ≡ line → words ≡ codes "workers" ∷ decimal count ∷ []
  workers-words count is same =
      words-of-line line words (codes "workers" ∷ decimal count ∷ []) split (omega arith)
      (count-plain (codes "workers") workers_max count (omega arith) (plain-by-test (codes "workers") refl) is) same

  replicas-words : (count : ℕ) → IsCount replicas_max count → replicas_line count ≡ line → words ≡ codes "replicas" ∷ decimal count ∷ []
  replicas-words count is same =
      words-of-line line words (codes "replicas" ∷ decimal count ∷ []) split (omega arith)
      (count-plain (codes "replicas") replicas_max count (omega arith) (plain-by-test (codes "replicas") refl) is) same

  table-words : (table : List ℕ × List Kind) → HasTableLine table → table_line table ≡ line → words ≡ table_words table
  table-words table has same =
      words-of-line line words (table_words table) split (omega arith) (table-plain table has) same

  -- the workers go first
  pub workers-next : (count : ℕ) → IsCount workers_max count → words ≡ codes "workers" ∷ decimal count ∷ []
      → IsNextSetting Nothing line (Workers count)
  workers-next count is set = (is, ap (λ (first : List ℕ). first ∷ []) (workers-set count is set))

  pub workers-none : ((count : ℕ) → IsCount workers_max count → words ≢ codes "workers" ∷ decimal count ∷ []) → IsNoSetting Nothing line
  workers-none none Nothing next = let lines = next.1 in cc
  workers-none none (Workers count) next =
      let lines = next.1 in
      let same : workers_line count ≡ line = cc in
      none count next.0 (workers-words count next.0 same)
  workers-none none (Replicas workers replicas) next = let lines = next.1 in cc
  workers-none none (Ready setup) next = let lines = next.1 in cc

  -- then the replicas
  pub replicas-next : (workers count : ℕ) → IsCount workers_max workers → IsCount replicas_max count
      → words ≡ codes "replicas" ∷ decimal count ∷ []
      → IsNextSetting (Workers workers) line (Replicas workers count)
  replicas-next workers count before is set =
      ((before, is), ap (λ (second : List ℕ). workers_line workers ∷ second ∷ []) (replicas-set count is set))

  pub replicas-none : (workers : ℕ) → ((count : ℕ) → IsCount replicas_max count → words ≢ codes "replicas" ∷ decimal count ∷ [])
      → IsNoSetting (Workers workers) line
  replicas-none workers none Nothing next = let lines = next.1 in cc
  replicas-none workers none (Workers count) next = let lines = next.1 in cc
  replicas-none workers none (Replicas others count) next =
      let lines = next.1 in
      let same : replicas_line count ≡ line = cc in
      none count next.0.1 (replicas-words count next.0.1 same)
  replicas-none workers none (Ready setup) next =
      let lines = next.1 in
      let rest : map table_line setup.schema ≡ [] = cc in
      no-tables setup.schema next.0.tables rest

  -- the names and lines of tables with one more
  names-more : (before : List (List ℕ × List Kind)) (table : List ℕ × List Kind) → list_all (λ table. is_name table.0) before ≡ true
      → is_name table.0 ≡ true → list_all (λ table. is_name table.0) (before ++ table ∷ []) ≡ true
  names-more [] table names named = rw named refl
  names-more (one ∷ before) table names named =
      let both = and_parts (is_name one.0) (list_all (λ table. is_name table.0) before) names in
      rw (both.0, names-more before table both.1 named) refl

  lines-more : (before : List (List ℕ × List Kind)) (table : List ℕ × List Kind) → table_line table ≡ line
      → map table_line (before ++ table ∷ []) ≡ map table_line before ++ line ∷ []
  lines-more [] table same = ap (λ (first : List ℕ). first ∷ []) same
  lines-more (one ∷ before) table same = ap (λ (rest : List (List ℕ)). table_line one ∷ rest) (lines-more before table same)

  -- then each table
  tables-next : (workers replicas : ℕ) (before after : List (List ℕ × List Kind)) → IsCount workers_max workers
      → IsCount replicas_max replicas
      → list_all (λ table. is_name table.0) before ≡ true → IsTableMore before words after
      → IsSetup (record { schema = after; workers = workers; replicas = replicas })
      × (map table_line after ≡ map table_line before ++ line ∷ [])
  tables-next workers replicas before after some_workers some_replicas names more =
      let table = more.table in
      let same : table_line table ≡ line = line-of-words line words (table_words table) split more.is_table.written in (
        record {
          workers = some_workers;
          replicas = some_replicas;
          names = rw more.behind (names-more before table names more.is_table.named);
          tables = more.sound;
        },
        rw more.behind (lines-more before table same),
      )

  tables-none : (before after : List (List ℕ × List Kind)) → AllByRecursion HasTableLine before
      → ((after : List (List ℕ × List Kind)) → ¬ IsTableMore before words after) → list_all (λ table. is_name table.0) after ≡ true
      → schema_fault after ≡ None → map table_line after ≡ map table_line before ++ line ∷ [] → ⊥
  tables-none before after good none names sound lines =
      let last = last-table before line after good (schema-has-lines after names sound) lines in
      none after (record {
        table = last.table;
        is_table = record {
          named = last.has_line.named;
          good = last.has_line.good;
          written = table-words last.table last.has_line last.line_is;
        };
        behind = last.behind;
        sound = sound;
      })

  pub first-next : (workers replicas : ℕ) (after : List (List ℕ × List Kind)) → IsCount workers_max workers → IsCount replicas_max replicas
      → IsTableMore [] words after
      → IsNextSetting (Replicas workers replicas) line (Ready (record { schema = after; workers = workers; replicas = replicas }))
  first-next workers replicas after some_workers some_replicas more =
      let next = tables-next workers replicas [] after some_workers some_replicas refl more in
      (next.0, ap (λ (tables : List (List ℕ)). workers_line workers ∷ replicas_line replicas ∷ tables) next.1)

  pub first-none : (workers replicas : ℕ) → ((after : List (List ℕ × List Kind)) → ¬ IsTableMore [] words after)
      → IsNoSetting (Replicas workers replicas) line
  first-none workers replicas none Nothing next = let lines = next.1 in cc
  first-none workers replicas none (Workers count) next = let lines = next.1 in cc
  first-none workers replicas none (Replicas others count) next = let lines = next.1 in cc
  first-none workers replicas none (Ready setup) next =
      let lines = next.1 in
      let rest : map table_line setup.schema ≡ line ∷ [] = cc in
      tables-none [] setup.schema tt none next.0.names next.0.tables rest

  pub table-next : (setup : Setup) (after : List (List ℕ × List Kind)) → IsSetup setup → IsTableMore setup.schema words after
      → IsNextSetting (Ready setup) line (Ready (record { schema = after; workers = setup.workers; replicas = setup.replicas }))
  table-next setup after is more =
      let next = tables-next setup.workers setup.replicas setup.schema after is.workers is.replicas is.names more in
      (next.0, ap (λ (tables : List (List ℕ)). workers_line setup.workers ∷ replicas_line setup.replicas ∷ tables) next.1)

  pub table-none : (setup : Setup) → IsSetup setup → ((after : List (List ℕ × List Kind)) → ¬ IsTableMore setup.schema words after)
      → IsNoSetting (Ready setup) line
  table-none setup is none Nothing next = let lines = next.1 in cc
  table-none setup is none (Workers count) next = let lines = next.1 in cc
  table-none setup is none (Replicas others count) next =
      let lines = next.1 in
      let rest : [] ≡ map table_line setup.schema ++ line ∷ [] = cc in
      some-line (map table_line setup.schema) line rest
  table-none setup is none (Ready other) next =
      let lines = next.1 in
      let rest : map table_line other.schema ≡ map table_line setup.schema ++ line ∷ [] = cc in
      tables-none setup.schema other.schema (schema-has-lines setup.schema is.names is.tables) none next.0.names next.0.tables rest

  pub no-first : (workers replicas : ℕ) (fault : LineFault) → OrMemory (IsNoTableMore [] words) fault
      → OrMemory (IsSettingFault (Replicas workers replicas) line) fault
  no-first workers replicas (Because reason) none = (none.0, first-none workers replicas none.1)
  no-first workers replicas Memory none = tt

  pub no-table : (setup : Setup) (fault : LineFault) → IsSetup setup → OrMemory (IsNoTableMore setup.schema words) fault
      → OrMemory (IsSettingFault (Ready setup) line) fault
  no-table setup (Because reason) is none = (none.0, table-none setup is none.1)
  no-table setup Memory is none = tt
