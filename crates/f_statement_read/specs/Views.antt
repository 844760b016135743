-- The statements of a file without their places.
use Rattle.f_statement_read.specs.declared.statement.Statement.{Statement}
use Rattle.f_statement_read.specs.declared.statement.Statement.TheVariants as statement
use Rattle.f_statement_grammar.specs.Statements as grammar
use Rattle.f_line_read.specs.Lines.{view_line}
use Rattle.f_declared.specs.Views.{view_declared}

abbrev pub view_statement : Statement → grammar.Statement
view_statement (statement.Executable l) = grammar.Executable (view_line l)
view_statement (statement.Declaring d) = grammar.Declaring (view_declared d)
