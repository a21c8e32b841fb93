use Rattle.gs_rs.proofs.Points.{IsByte-point, point-apart, denominator-ne-zero, IsCode-video}
use Rattle.gs_rs.proofs.Rows.{IsCode-audio, point_form_is_row_form}
use Rattle.gs_rs.proofs.Blocks.{enough_determine, enough_have, data_alone, data_alone_columns}
use Rattle.gs_rs.proofs.laws.code_laws.Goals as goal

pub returns : goal.returns
returns c = record {
  codes = (IsCode-video, IsCode-audio);
  points = λ code is. (IsByte-point code is, point-apart code is);
  denominators = denominator-ne-zero;
  row_form = point_form_is_row_form;
  determined = enough_determine;
  existing = enough_have;
  without_parity = data_alone;
  data_columns = data_alone_columns;
}
