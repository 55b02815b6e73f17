-- What a state and a log have in common after every list of calls: the rows, their lines, and the cycle with its record and tallies. Here what it is, what it
-- gives, and that the fresh array has it. Assumes nothing.
use mathlib.Core.Path.{◌≡◌, refl, sym, ap, ◌∙◌}
use mathlib.Core.Bool.{Bool, false}
use mathlib.Core.List.{List, []}
use Prim.Native.Nat.{ℕ, ◌*◌, ◌<◌}
use lib.ListN.{length, get_or, take, drop, length-replicate}
use Rattle.parity.specs.Shape.{levels, columns, cell_count}
use Rattle.parity.specs.Matrix.{cycle_steps}
use Rattle.parity.specs.Codeword.{Codeword}
use Rattle.parity.specs.Claims.{Below}
use Rattle.parity.specs.Questions.{Taken}
use Rattle.parity.specs.declared.Shape.{Shape}
use Rattle.parity.proofs.ListLaws.{Each}
use Rattle.schedule.proofs.All.{All, all-at, all-turn}
use Rattle.array_memory.specs.Geometry.{row_at}
use Rattle.array_memory.specs.Lengths.{RowsSized, Sized}
use Rattle.cycle.specs.Calls.{State, zero_rows, cleared, fresh}
use Rattle.cycle.specs.declared.Cycle.{Cycle}
use Rattle.cycle.specs.declared.Phase.TheVariants.{Idle}
use Rattle.cycle.proofs.CycleRecord.{Stands}
use Rattle.detection.specs.Log.{Course, none, open-cycle, ended, Log, blank}
use Rattle.detection.specs.Claims.{flat}
use Rattle.detection.proofs.Elements.{all_replicate}
use Rattle.detection.proofs.Rows.{Wide, flat-each, flat-replicate, flat-length, flat-row}
use Rattle.detection.proofs.ZeroRow.{zero_row}
use Rattle.cycle.proofs.Steps.{Tallies, fresh-sized}

-- a row as it can stand: n cells, all below q
pub record Cells (s : Shape) (row : List ℕ) : Type 0 where
  pub sized : length row ≡ columns s
  pub below : Below (levels s) (columns s) row

pub codeword-cells : (s : Shape) (row : List ℕ) → Codeword s row → Cells s row
codeword-cells s row c = record { sized = c.sized; below = c.below }

-- m rows written, all sound; m rows as they stand, and the cells are theirs
pub record RowsAgree (s : Shape) (cells : List ℕ) (written standing : List (List ℕ)) : Type 0 where
  pub written_count : length written ≡ s.rows
  pub standing_count : length standing ≡ s.rows
  pub sound : All (Codeword s) written
  pub stands : All (Cells s) standing
  pub laid : cells ≡ flat standing

-- the cycle does not skip all digits; the record stands at the count of c taken steps, and so do the rows' tallies where nothing has changed since
-- the start
pub record Running (s : Shape) (st : State) (z c : ℕ) (changed : Bool) : Type 0 where
  pub partial : z < s.digits
  pub stands : Stands z s c st.cycle
  pub tallies : changed ≡ false → Tallies z s st c

-- the record is idle with count 0, and skips nothing
pub record Resting (cycle : Cycle) (z c : ℕ) : Type 0 where
  pub phase : cycle.phase ≡ Idle
  pub count : (cycle.count ≡ 0) × (c ≡ 0)
  pub skip : (cycle.skip ≡ 0) × (z ≡ 0)

-- what the log's cycle says of the state
abbrev pub InCourse : Shape → State → Course → ℕ → ℕ → Bool → Type 0
InCourse s st none z c changed = Resting st.cycle z c
InCourse s st open-cycle z c changed = Running s st z c changed × (c < cycle_steps z s)
InCourse s st ended z c changed = Running s st z c changed × (c ≡ cycle_steps z s)

pub record Agrees (s : Shape) (st : State) (l : Log) : Type 0 where
  pub rows : RowsAgree s st.memory.cells l.rows.written l.rows.standing
  pub lines : st.memory.lines ≡ l.rows.lines
  pub line_count : length st.memory.lines ≡ s.rows
  pub rest : RowsSized s st.memory
  pub course : InCourse s st l.cycle.course l.cycle.skip l.cycle.count l.marks.changed

module _ (s : Shape) (cells : List ℕ) (written standing : List (List ℕ)) (r : RowsAgree s cells written standing) where
  pub wide : Wide (columns s) standing
  wide = all-turn (Cells s) _ (λ row c. c.sized) standing r.stands

  cells-sized : length cells ≡ cell_count s
  unfolding cell_count
  cells-sized = ap length r.laid ∙ flat-length (columns s) standing wide ∙ ap (λ m. m * columns s) r.standing_count

  pub cells-below : Below (levels s) (cell_count s) cells
  cells-below i h =
      let level : ℕ → Type 0 = λ v. v < levels s in
      let rows : All (Each level) standing = all-turn (Cells s) _ (λ row c. rw c.sized c.below) standing r.stands in
      let each : Each level cells = rw r.laid (flat-each level standing rows) in
      each i (rw cells-sized h)

  module _ (i : ℕ) (h : i < s.rows) where
    pub written_row : Codeword s (get_or written i [])
    written_row = all-at (Codeword s) written r.sound i (rw r.written_count h) []

    pub standing-row : Cells s (get_or standing i [])
    standing-row = all-at (Cells s) standing r.stands i (rw r.standing_count h) []

    pub row-stands : row_at (columns s) cells i ≡ get_or standing i []
    unfolding row_at
    row-stands =
        ap (λ held. take (columns s) (drop (i * columns s) held)) r.laid ∙ flat-row (columns s) standing i wide (rw r.standing_count h)

pub sized : (s : Shape) (st : State) (l : Log) → Agrees s st l → Sized s st.memory
sized s st l a = record { cells = cells-sized s _ _ _ a.rows; lines = a.line_count; rows = a.rest }

pub agrees-fresh : (s : Shape) → Taken s → Agrees s (fresh s) (blank s)
unfolding fresh cleared zero_rows blank cell_count
agrees-fresh s t =
    record {
      rows =
          record {
            written_count = length-replicate s.rows _;
            standing_count = length-replicate s.rows _;
            sound = all_replicate (Codeword s) s.rows _ (zero_row s t);
            stands = all_replicate (Cells s) s.rows _ (codeword-cells s _ (zero_row s t));
            laid = sym (flat-replicate s.rows (columns s) 0);
          };
      lines = refl;
      line_count = length-replicate s.rows 0;
      rest = (fresh-sized s).rows;
      course = record { phase = refl; count = (refl, refl); skip = (refl, refl) };
    }
