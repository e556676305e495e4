pub mod CourseLaws
