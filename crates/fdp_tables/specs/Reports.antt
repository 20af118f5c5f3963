-- Which kinds of event are kept for a handle.
use Rattle.std.specs.Prelude.{false}
use Rattle.fdp_tables.specs.declared.state.KeptReports.{KeptReports}

-- none is kept
abbrev pub no_reports : KeptReports
no_reports = record {
  not_fully_written = false;
  time_limit_exceeded = false;
  handles_modified = false;
  invalid_identifier = false;
  media_reallocated = false;
  implicitly_modified = false;
}
