use Rattle.std.proofs.Common.{refl}
use Rattle.hall_sql.specs.PathCalls.{WasCalled}
use Rattle.hall_sql.specs.declared.path_calls.PathCall.TheVariants.{Read}
use Rattle.hall_sql.proofs.PathReads.{given}
use Rattle.hall_sql.proofs.system_files.SystemFilesPathFilesFileStoreServedFile.read.Goals as goal

pub returns-clause-given : goal.returns-clause-given
returns-clause-given g c =
    given (λ bytes. bytes.items) _ (λ told. WasCalled (Read told) c.args.self.now.calls c.args.path.now c.read.new.self)
    c.read.result refl c.read.ensures
